use Rattle.std.proofs.Common.{◌≡◌, ◌+◌, ◌-◌, ◌/◌, ◌%◌, ◌*◌, ◌<◌, ℕ, get_or, length}
use Rattle.std.specs.Int.{bit_at}
use Rattle.mill_base.proofs.packing.pack.Given as goal

abbrev pub invariant-loop-index : goal.invariant-loop-index
invariant-loop-index l = record {
  len : length l.out ≡ length l.fn.out;
  done : (j i : ℕ) → j < 8 * l.index → i < 8 → bit_at (get_or l.out j 0) i ≡ bit_at (get_or l.words (j / 8) 0) (8 * (j % 8) + 7 - i);
}
