use Rattle.std.proofs.Common.{◌≡◌, ◌/◌, ◌%◌, ◌-◌, ◌*◌, ◌<◌, ◌==◌, ℕ, get_or, length}
use Rattle.std.specs.Int.{bit_at}
use Rattle.mill_base.specs.Bits.{bit_of}
use Rattle.mill_base.proofs.packing.unpack_all.Given as goal

abbrev pub invariant-loop-index : goal.invariant-loop-index
invariant-loop-index l = record {
  len : length l.words.items ≡ length l.fn.words.items;
  done : (k : ℕ) → k < 64 * l.index → bit_of l.words.items k ≡ (bit_at (get_or l.bytes (k / 8) 0) (7 - k % 8) == 1);
}
