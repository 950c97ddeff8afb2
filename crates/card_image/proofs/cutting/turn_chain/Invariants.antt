use Rattle.std.proofs.Common.{◌≡◌, length, map}
use Rattle.card_image.specs.Sets.{design_by, other_face, turned_card}
use Rattle.card_image.proofs.Written.{Written}
use Rattle.card_image.proofs.cutting.turn_chain.Given as goal

abbrev pub invariant-loop-pick : goal.invariant-loop-pick
invariant-loop-pick l = (length l.card ≡ l.casting.hooks) × (length l.cells ≡ length l.casting.columns)
    × Written (design_by l.casting l.set.design.picks) l.chain.items (other_face l.set.face) (map (turned_card l.casting.hooks l.casting.columns) l.set.holes) l.pick
