use Rattle.shift_run.specs.inner.Slots.{painter_slots}
use Rattle.shift_run.specs.inner.Unread.{CanDo, Does}
use Rattle.shift_run.proofs.unread.do_painter.Given as goal

abbrev pub invariant-places : goal.invariant-places
invariant-places g l = record {
  does : Does l.session (painter_slots l.shift l.painter l.place) l.initial.unread l.unread;
  can : CanDo l.session l.unread;
}
