use Rattle.std.proofs.Common.{◌≡◌, ◌<◌, ◌≤◌, ℕ, length}
use Rattle.std.specs.Prelude.{slice_index, slice_index_or}
use Rattle.loom_threads.specs.Looms.{LoomValue}
use Rattle.shift_run.specs.inner.Looms.{CanWeave, DidPart, part_at}
use Rattle.shift_run.proofs.shares.weave_each.Given as goal

abbrev pub invariant-looms : goal.invariant-looms
invariant-looms g l = record {
  looms : length l.looms ≡ length l.initial.looms;
  done : (j : ℕ) (d : LoomValue) → j < l.k
      → DidPart l.shift (slice_index l.repeats j) (part_at l.parts j) (slice_index_or l.initial.looms j d) (slice_index_or l.looms j d);
  others : (j : ℕ) (d : LoomValue) → l.k ≤ j → slice_index_or l.looms j d ≡ slice_index_or l.initial.looms j d;
  can : (j : ℕ) (d : LoomValue) → j < length l.initial.looms → CanWeave (slice_index l.repeats j) (part_at l.parts j) (slice_index_or l.initial.looms j d);
}
