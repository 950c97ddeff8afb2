use Rattle.std.proofs.Common.{◌≡◌, ◌+◌, false}
use Rattle.mill_base.specs.Below.{any_below}
use Rattle.card_image.specs.Places.{hole_at}
use Rattle.card_image.proofs.card_fault.has_pad.Given as goal

abbrev pub invariant-loop-k : goal.invariant-loop-k
invariant-loop-k l = any_below (λ k. hole_at l.holes 0 (l.hooks + k)) l.k ≡ false
