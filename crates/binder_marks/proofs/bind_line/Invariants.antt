use Rattle.std.proofs.Common.{◌≡◌, ◌/◌, ◌<◌, ℕ, false, length, get_or}
use Rattle.binder_marks.specs.Bound.{bound_at}
use Rattle.binder_marks.proofs.bind_line.Given as goal

abbrev pub invariant-loop-at : goal.invariant-loop-at
invariant-loop-at l = record {
  long : length l.out ≡ length l.raw;
  bound : (k : ℕ) → k / 64 < l.at → k < length l.raw → get_or l.out k false ≡ bound_at l.raw l.long l.raise l.sink k;
}
