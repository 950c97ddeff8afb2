use Rattle.std.proofs.Common.{◌≡◌, ◌<◌, ◌≤◌, ℕ, length}
use Rattle.std.specs.Prelude.{slice_index, slice_index_or}
use Rattle.loom_threads.specs.Looms.{LoomValue}
use Rattle.shift_run.specs.inner.Looms.{DidFinish, part_at}
use Rattle.shift_run.proofs.looms.finish_all.Given as goal

abbrev pub invariant-looms : goal.invariant-looms
invariant-looms l = record {
  looms : length l.looms.items ≡ length l.initial.looms.items;
  end : l.end ≡ l.initial.end;
  done : (j : ℕ) (d : LoomValue) → j < l.k
      → DidFinish l.shift (slice_index l.repeats j) l.known l.core.version l.core.cards l.initial.end.list (part_at l.parts j) (slice_index_or l.initial.looms.items j d) (slice_index_or l.looms.items j d);
  others : (j : ℕ) (d : LoomValue) → l.k ≤ j → slice_index_or l.looms.items j d ≡ slice_index_or l.initial.looms.items j d;
}
