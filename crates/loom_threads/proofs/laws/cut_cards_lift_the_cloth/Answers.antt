use Rattle.loom_threads.proofs.Lifting.{from_cut}
use Rattle.loom_threads.proofs.laws.cut_cards_lift_the_cloth.Goals as goal

pub returns : goal.returns
returns c design face paper is = from_cut c.turned_cards_are_those_of_the_other_face.ensures.pick design face paper is
