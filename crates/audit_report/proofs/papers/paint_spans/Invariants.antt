use Rattle.std.proofs.Common.{◌≡◌, drop}
use Rattle.strokes.specs.Spans.{after_spans}
use Rattle.audit_report.proofs.papers.paint_spans.Given as goal

abbrev pub invariant-loop-span : goal.invariant-loop-span
invariant-loop-span l = record {
  columns : l.paper.columns ≡ l.initial.paper.columns;
  picks : l.paper.picks ≡ l.initial.paper.picks;
  so_far : after_spans l.paper (drop l.span-index l.spans) ≡ after_spans l.initial.paper l.spans;
}
