use Rattle.std.proofs.Common.{◌≡◌, ◌<◌, ℕ, length}
use Rattle.shift_model.specs.Plans.{plan_of}
use Rattle.audit_model.specs.States.{stated_repeats, woven_of}
use Rattle.audit_report.specs.Checkers.{state_of}
use Rattle.audit_report.proofs.checker.Checker.next_loom.Given as goal

abbrev pub invariant-loop-loom : goal.invariant-loop-loom
invariant-loop-loom l = record {
  plan : l.repeats ≡ (plan_of l.session l.self.shift).repeats;
  each : (j : ℕ) → j < l.loom → length (woven_of (state_of l.self) j) ≡ stated_repeats l.session (state_of l.self) j;
}
