use Rattle.std.proofs.Common.{◌≡◌, ◌*◌, ◌<◌, ℕ, false, length, get_or}
use Rattle.mill_base.specs.Bits.{bit_of}
use Rattle.mill_base.proofs.bit_block.BitBlock.store.Given as goal

abbrev pub invariant-loop-index : goal.invariant-loop-index
invariant-loop-index l = record {
  long : length l.out ≡ length l.initial.out;
  done : (k : ℕ) → k < length l.out → k < 64 * l.index → get_or l.out k false ≡ bit_of l.self-inside.words k;
}
