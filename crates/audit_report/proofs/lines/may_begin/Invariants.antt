use Rattle.std.proofs.Common.{◌≤◌, length}
use Rattle.audit_report.proofs.lines.may_begin.Given as goal

abbrev pub invariant-loop-k : goal.invariant-loop-k
invariant-loop-k l = l.k ≤ length l.piece
