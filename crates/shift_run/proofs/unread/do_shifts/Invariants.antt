use Rattle.shift_run.specs.inner.Unread.{AreDone}
use Rattle.shift_run.proofs.unread.do_shifts.Given as goal

abbrev pub invariant-shifts : goal.invariant-shifts
invariant-shifts g l = AreDone l.session l.shift l.unread
