use Rattle.std.proofs.Common.{◌≡◌, take, sum_by, get_or}
use Rattle.session_file.specs.declared.session.ShiftPlan.{ShiftPlan}
use Rattle.loom_threads.proofs.counts.count_repeats.Given as goal

abbrev pub invariant-loop-plan : goal.invariant-loop-plan
invariant-loop-plan l = l.sum ≡ sum_by (λ (plan : ShiftPlan). get_or plan.repeats l.number 0) (take l.plan-index l.plan-items)
