use Rattle.std.proofs.Common.{◌≡◌, [], replicate}
use Rattle.audit_report.proofs.checker.no_repeats.Given as goal

abbrev pub invariant-loop-loom : goal.invariant-loop-loom
invariant-loop-loom l = l.lists.items ≡ replicate l.loom []
