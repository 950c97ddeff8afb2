use Rattle.std.proofs.Common.{◌≡◌, ◌-◌, ◌<◌, ◌≤◌, ℕ, length}
use Rattle.std.specs.Prelude.{slice_index_or, None}
use Rattle.strokes.proofs.stamp.run_end.Given as goal

abbrev pub invariant-loop-end : goal.invariant-loop-end
invariant-loop-end l =
    (l.start < l.end) × (l.end ≤ length l.cells)
    × ((k : ℕ) → l.start ≤ k → k < l.end → slice_index_or l.cells k None ≡ slice_index_or l.cells l.start None)

abbrev pub decreases-loop-end : goal.decreases-loop-end
decreases-loop-end l = length l.cells - l.end
