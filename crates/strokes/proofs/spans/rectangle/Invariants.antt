use Rattle.std.proofs.Common.{◌≡◌, ◌+◌, ◌&&◌, length}
use Rattle.std.specs.Prelude.{nat_le, nat_lt}
use Rattle.strokes.specs.Paints.{is_between}
use Rattle.strokes.specs.inner.Spans.{PaintInColour}
use Rattle.strokes.proofs.spans.rectangle.Given as goal

abbrev pub invariant-loop-pick : goal.invariant-loop-pick
invariant-loop-pick l =
    (length l.spans.items + l.low ≡ l.pick)
    × PaintInColour l.fn.size l.colour (λ c p. is_between l.fn.corners.column0 l.fn.corners.column1 c && (nat_le l.low p && nat_lt p l.pick)) l.spans.items
