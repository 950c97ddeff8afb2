use Rattle.std.proofs.Common.{◌≡◌, ◌≢◌, ℕ}
use Rattle.std.specs.Prelude.{slice_index}
use Rattle.shift_run.specs.inner.Foreman.{GoesOn}
use Rattle.shift_run.specs.inner.Slots.{AddsSlots, slots_past}
use Rattle.shift_run.proofs.foreman.do_rest.Given as goal

abbrev pub invariant-rest : goal.invariant-rest
invariant-rest g l = record {
  goes : GoesOn l.task.session.now l.task.shift l.initial.desk l.initial.done.items l.desk l.done.items;
  place : slice_index l.done.items l.painter ≡ l.place;
  others : (other : ℕ) → other ≢ l.painter → slice_index l.done.items other ≡ slice_index l.initial.done.items other;
  slots : AddsSlots (slots_past l.task.shift l.painter l.from l.place) l.initial.desk.core.entries l.desk.core.entries;
}
