use Rattle.std.proofs.Common.{◌≡◌, ◌<◌, ℕ}
use Rattle.shift_model.specs.Plans.{plan_of}
use Rattle.audit_model.specs.States.{done_of, stated_acts}
use Rattle.audit_report.specs.Checkers.{state_of}
use Rattle.audit_report.proofs.checker.Checker.has_acts_left.Given as goal

abbrev pub invariant-loop-painter : goal.invariant-loop-painter
invariant-loop-painter l = record {
  plan : l.painters ≡ (plan_of l.session l.self.shift).painters;
  each : (j : ℕ) → j < l.painter → done_of (state_of l.self) j ≡ stated_acts l.session (state_of l.self) j;
}
