use Rattle.std.proofs.Common.{◌≡◌, ◌≤◌}
use Rattle.mill_base.specs.Below.{count_below}
use Rattle.card_image.specs.Places.{hole_at}
use Rattle.card_image.proofs.card_fault.count_holes.Given as goal

abbrev pub invariant-loop-hook : goal.invariant-loop-hook
invariant-loop-hook l = (l.count ≤ l.hook) × (l.count ≡ count_below (hole_at l.holes 0) l.hook)
