use Rattle.std.proofs.Common.{◌≡◌, ◌-◌, ◌≤◌, ℕ}
use Rattle.strokes.specs.Paints.{line_length, line_place}
use Rattle.strokes.proofs.corners.Corners.stretch_end.Given as goal

abbrev pub invariant-loop-end : goal.invariant-loop-end
invariant-loop-end l =
    let n = line_length l.self.column0 l.self.pick0 l.self.column1 l.self.pick1 in
    (l.start ≤ l.end) × (l.end ≤ n)
    × ((i : ℕ) → l.start ≤ i → i ≤ l.end → line_place n l.self.pick0 l.self.pick1 i ≡ line_place n l.self.pick0 l.self.pick1 l.start)

abbrev pub decreases-loop-end : goal.decreases-loop-end
decreases-loop-end l = l.last - l.end
