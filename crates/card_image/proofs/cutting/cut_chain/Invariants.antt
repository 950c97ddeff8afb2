use Rattle.std.proofs.Common.{◌≡◌, length}
use Rattle.mill_base.specs.declared.face.Face.TheVariants.{Up}
use Rattle.card_image.specs.Sets.{cards_up, design_by}
use Rattle.card_image.proofs.Written.{Written}
use Rattle.card_image.proofs.cutting.cut_chain.Given as goal

abbrev pub invariant-loop-pick : goal.invariant-loop-pick
invariant-loop-pick l = (length l.card ≡ l.casting.hooks) × Written (design_by l.casting (length l.bits.rows)) l.chain.items Up (cards_up l.casting l.bits) l.pick
