use Rattle.std.proofs.Common.{◌≡◌, ◌<◌, ◌≤◌, ℕ, length}
use Rattle.std.specs.Prelude.{slice_index_or}
use Rattle.std.specs.Vec.{vec_capacity}
use Rattle.loom_threads.specs.Looms.{LoomValue}
use Rattle.shift_run.specs.inner.Looms.{IsReadied, part_at}
use Rattle.shift_run.proofs.looms.ready_all.Given as goal

abbrev pub invariant-looms : goal.invariant-looms
invariant-looms l = record {
  looms : length l.looms.items ≡ length l.initial.looms.items;
  list : l.end.list ≡ l.initial.end.list;
  parts : length l.parts.items ≡ l.k;
  room : vec_capacity l.parts ≡ vec_capacity l.initial.parts;
  ready : (j : ℕ) (d : LoomValue) → j < l.k
      → IsReadied l.initial.end.list (part_at l.parts.items j) (slice_index_or l.initial.looms.items j d) (slice_index_or l.looms.items j d);
  others : (j : ℕ) (d : LoomValue) → l.k ≤ j → slice_index_or l.looms.items j d ≡ slice_index_or l.initial.looms.items j d;
}
