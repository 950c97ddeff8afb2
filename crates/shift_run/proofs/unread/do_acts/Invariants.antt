use Rattle.std.proofs.Common.{take}
use Rattle.shift_model.specs.Plans.{plan_of}
use Rattle.shift_run.specs.inner.Slots.{slots_from}
use Rattle.shift_run.specs.inner.Unread.{CanDo, Does}
use Rattle.shift_run.proofs.unread.do_acts.Given as goal

abbrev pub invariant-painters : goal.invariant-painters
invariant-painters g l = record {
  does : Does l.session (slots_from l.shift 0 (take l.painter (plan_of l.session l.shift).painters)) l.initial.unread l.unread;
  can : CanDo l.session l.unread;
}
