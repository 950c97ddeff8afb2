use Rattle.audit_report.proofs.Versions.{IsUpTo}
use Rattle.audit_report.proofs.papers.paper_of_version.Given as goal

abbrev pub invariant-loop-entry : goal.invariant-loop-entry
invariant-loop-entry l = IsUpTo l.session l.entries l.entry-index l.version l.paper
