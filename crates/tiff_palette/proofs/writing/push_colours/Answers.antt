use Rattle.std.proofs.Common.{arith}
use Rattle.std.proofs.lemmas.List.{get_or_default}
use Rattle.tiff_palette.proofs.writing.push_colours.Goals as goal

pub returns-clause-short : goal.returns-clause-short
returns-clause-short c k d below =
    let fits = c.type_inv.colours k in
    let same = get_or_default c.args.colours.now k d 0 below in
    omega (arith, fits, same)
