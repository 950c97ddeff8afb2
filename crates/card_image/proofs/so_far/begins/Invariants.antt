use Rattle.std.proofs.Common.{length, drop, ◌-◌, ◌≡◌}
use Rattle.card_image.specs.Faults.{begins as begins_with}
use Rattle.card_image.proofs.so_far.begins.Given as goal

abbrev pub invariant-loop-at : goal.invariant-loop-at
invariant-loop-at l = begins_with (drop l.at l.first) (drop l.at l.whole) ≡ begins_with l.first l.whole

abbrev pub decreases-loop-at : goal.decreases-loop-at
decreases-loop-at l = length l.first - l.at
