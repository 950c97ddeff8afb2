use Rattle.std.proofs.Common.{◌≡◌, ◌+◌, ◌-◌, ◌≤◌, length}
use Rattle.mill_base.specs.Below.{any_below}
use Rattle.strokes.specs.Paints.{distance, is_line_cell, line_length, line_step}
use Rattle.strokes.specs.inner.Spans.{PaintInColour}
use Rattle.strokes.proofs.corners.Corners.line.Given as goal

abbrev pub invariant-loop-start : goal.invariant-loop-start
invariant-loop-start l =
    let n = line_length l.self.column0 l.self.pick0 l.self.column1 l.self.pick1 in
    let picks = distance l.self.pick0 l.self.pick1 in
    (l.start ≤ l.last + 1)
    × (l.start ≤ l.last → length l.spans.items ≡ line_step n picks l.start)
    × (l.start ≡ l.last + 1 → length l.spans.items ≡ picks + 1)
    × PaintInColour l.fn.size l.colour (λ c p. any_below (is_line_cell l.self.column0 l.self.pick0 l.self.column1 l.self.pick1 c p) l.start) l.spans.items

abbrev pub decreases-loop-start : goal.decreases-loop-start
decreases-loop-start l = l.last + 1 - l.start
