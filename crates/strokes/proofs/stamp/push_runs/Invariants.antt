use Rattle.std.proofs.Common.{◌-◌, ◌≤◌, ℕ, List, length, take}
use Rattle.std.specs.Prelude.{Option}
use Rattle.mill_base.specs.declared.size.Size.{Size}
use Rattle.strokes.specs.inner.Spans.{AreAdded, AreLaidInside, laid}
use Rattle.strokes.proofs.stamp.push_runs.Given as goal

abbrev pub invariant-loop-start : goal.invariant-loop-start
invariant-loop-start l =
    (l.start ≤ length l.cells)
    × ((size : Size) (all : List (Option ℕ)) → AreLaidInside size all l.cells l.column l.pick
    → AreAdded size all (laid (take l.start l.cells) l.column l.pick) l.initial.spans.items l.spans.items)

abbrev pub decreases-loop-start : goal.decreases-loop-start
decreases-loop-start l = length l.cells - l.start
