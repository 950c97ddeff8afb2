use Rattle.std.proofs.Common.{◌≤◌, ◌<◌, ℕ}
use Rattle.audit_model.specs.Audits.{Begins}
use Rattle.audit_report.specs.Checkers.{digest_at}
use Rattle.audit_report.specs.Texts.{loom_line_by}
use Rattle.audit_report.proofs.weaving.next_version.Given as goal

abbrev pub invariant-loop-version : goal.invariant-loop-version
invariant-loop-version l = (v : ℕ) → l.low ≤ v → v < l.version → Begins l.piece (loom_line_by l.face l.loom l.number v (digest_at l.digests v l.face)) → ⊥
