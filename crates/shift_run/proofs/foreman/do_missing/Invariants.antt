use Rattle.std.proofs.Common.{◌≡◌, ◌<◌, ◌≤◌, ℕ, length}
use Rattle.std.specs.Prelude.{slice_index}
use Rattle.shift_model.specs.Plans.{plan_of, acts_of_painter}
use Rattle.shift_run.specs.inner.Foreman.{GoesOn}
use Rattle.shift_run.specs.inner.Slots.{AddsSlots, left_slots}
use Rattle.shift_run.proofs.foreman.do_missing.Given as goal

abbrev pub invariant-painters : goal.invariant-painters
invariant-painters g l = record {
  goes : GoesOn l.task.session.now l.task.shift l.initial.desk l.initial.done.items l.desk l.done.items;
  whole : (painter : ℕ) → painter < l.painter → length (acts_of_painter (plan_of l.task.session.now l.task.shift) painter) ≤ slice_index l.done.items painter;
  others : (painter : ℕ) → l.painter ≤ painter → slice_index l.done.items painter ≡ slice_index l.initial.done.items painter;
  slots : AddsSlots (left_slots l.task.shift (plan_of l.task.session.now l.task.shift) l.initial.done.items l.painter) l.initial.desk.core.entries l.desk.core.entries;
}
