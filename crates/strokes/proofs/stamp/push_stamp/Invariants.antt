use Rattle.strokes.specs.inner.Spans.{AreAdded, stamped_below}
use Rattle.strokes.proofs.stamp.push_stamp.Given as goal

abbrev pub invariant-loop-row : goal.invariant-loop-row
invariant-loop-row l = AreAdded l.size l.motif.cells (stamped_below l.motif l.size l.column l.pick l.row) l.initial.spans.items l.spans.items
