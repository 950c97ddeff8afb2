use Rattle.std.proofs.Common.{[], subst, ◌∙◌, arith}
use Rattle.card_image.specs.Chains.{Chain}
use Rattle.card_image.specs.Sets.{CardDesign, design_by}
use Rattle.cloth_files.proofs.lifting.decode.Goals as goal

pub returns-clause-sound : goal.returns-clause-sound
returns-clause-sound c =
    let design = design_by c.args.design.now.casting c.args.design.now.size.picks in
    let bytes = c.args.chain.now in
    let set = c.in_ok-finish.field-0 in
    let read : Chain design bytes set.face set.holes =
    subst (λ (d : CardDesign). Chain d bytes set.face set.holes) (c.feed.ensures.design ∙ c.in_ok-decoder.ensures.design)
    ((c.in_ok-finish.ensures.cards bytes (c.feed.ensures.fed [] c.in_ok-decoder.ensures.fed)).1) in
    c.chains_have_no_fault.ensures design bytes set.face set.holes (omega (arith, c.requires.hooks.1)) (omega (arith, c.requires.picks.1)) read
