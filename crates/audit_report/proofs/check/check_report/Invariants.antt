use Rattle.std.proofs.Common.{◌≤◌, ◌-◌, length, take, drop}
use Rattle.audit_model.specs.Reads.{Cut}
use Rattle.audit_report.specs.Checkers.{Holds}
use Rattle.audit_report.proofs.check.check_report.Given as goal

abbrev pub invariant-loop-at : goal.invariant-loop-at
invariant-loop-at l = (l.at ≤ length l.bytes) × (l.count ≤ l.at) × Holds l.session l.checker (take l.at l.bytes) × Cut l.bytes l.count (take l.at l.bytes) (drop l.at l.bytes)

abbrev pub decreases-loop-at : goal.decreases-loop-at
decreases-loop-at l = length l.bytes - l.at
