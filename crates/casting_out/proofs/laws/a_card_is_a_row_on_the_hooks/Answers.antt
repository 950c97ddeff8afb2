use Rattle.casting_out.proofs.Holes.{card_face_up, card_face_down}
use Rattle.casting_out.proofs.laws.a_card_is_a_row_on_the_hooks.Goals as goal

pub returns-clause-up : goal.returns-clause-up
returns-clause-up c = card_face_up

pub returns-clause-down : goal.returns-clause-down
returns-clause-down c = card_face_down
