use Rattle.std.proofs.Common.{◌∙◌, ap}
use Rattle.mill_base.specs.declared.face.Face.TheVariants.{Up, Down}
use Rattle.draft_model.specs.Cards.{lift, woven}
use Rattle.card_image.specs.Sets.{turned_card}
use Rattle.loom_machine.proofs.laws.cut_cards_lift_the_cloth.Goals as goal

pub returns-clause-up : goal.returns-clause-up
returns-clause-up c tie casting bits p is there low =
    ap (lift tie casting) (c.cut_cards_are_those_of_the_picks.ensures.card casting bits p low) ∙ c.what_is_lifted_is_the_cloth.ensures.row tie casting bits Up p is there low

pub returns-clause-down : goal.returns-clause-down
returns-clause-down c tie casting bits p is there low =
    ap (λ h. woven Down (lift tie casting h))
    (ap (turned_card casting.hooks casting.columns) (c.cut_cards_are_those_of_the_picks.ensures.card casting bits p low)
    ∙ c.turned_cards_are_those_of_the_other_face.ensures.pick casting bits Up p is)
    ∙ c.what_is_lifted_is_the_cloth.ensures.row tie casting bits Down p is there low
