use Rattle.std.proofs.Common.{◌≡◌, sym, subst}
use Rattle.std.specs.Prelude.{IfOk}
use Rattle.mill_base.specs.declared.face.Face.{Face}
use Rattle.mill_base.specs.declared.face.Face.TheVariants.{Up}
use Rattle.cloth_files.proofs.Lifts.{cut_is, if_turned, paper_set}
use Rattle.cloth_files.proofs.cards.cut.Goals as goal

pub returns : goal.returns
returns c =
    let design = c.args.design.now in
    let paper = c.args.paper.now in
    subst (λ (face : Face). IfOk c.turned.result (λ set. set ≡ paper_set design face paper)) (sym c.in-Down.is)
    (if_turned design paper c.in_ok-cards.cards c.turned.result (λ bits pick. c.turned_cards_are_those_of_the_other_face.ensures.pick design.casting bits Up pick c.hooks.ensures.casting)
    (cut_is design paper c.in_ok-bits.bits c.in_ok-cards.cards c.in_ok-bits.ensures.bits c.in_ok-cards.ensures) c.turned.ensures)
