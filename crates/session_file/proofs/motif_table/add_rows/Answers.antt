use Rattle.std.proofs.Common.{map}
use Rattle.std.specs.String.{string_bytes}
use Rattle.session_file.proofs.Motifs.{fit_more}
use Rattle.session_file.proofs.motif_table.add_rows.Goals as goal

pub returns-in-Ok-clause-within : goal.returns-in-Ok-clause-within
returns-in-Ok-clause-within c =
    let rows = map string_bytes c.args.rows.now in
    let law = c.rows_without_a_fault_make_a_motif.ensures in
    fit_more c.args.colours c.args.size c.args.motifs.now c.add.new.self c.args.name.now rows c.in-Ok.ensures.ok
    (law.small rows c.args.colours c.args.size c.in-Ok.ensures.sound) (law.colours rows c.args.colours c.args.size c.in-Ok.ensures.sound)
