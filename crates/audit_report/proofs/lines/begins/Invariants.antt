use Rattle.std.proofs.Common.{◌≡◌, ◌<◌, ◌≤◌, ℕ, length, get_or}
use Rattle.audit_report.proofs.lines.begins.Given as goal

abbrev pub invariant-loop-k : goal.invariant-loop-k
invariant-loop-k l = (length l.piece ≤ length l.line) × ((j d : ℕ) → j < l.k → get_or l.line j d ≡ get_or l.piece j d)
