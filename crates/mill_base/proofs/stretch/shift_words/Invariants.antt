use Rattle.std.proofs.Common.{◌≡◌, ◌+◌, ◌*◌, ◌<◌, ℕ, length}
use Rattle.mill_base.specs.Bits.{bit_of}
use Rattle.mill_base.proofs.stretch.shift_words.Given as goal

abbrev pub invariant-loop-index : goal.invariant-loop-index
invariant-loop-index l = record {
  long : length l.out ≡ length l.initial.out;
  done : (k : ℕ) → k < 64 * l.index → bit_of l.out k ≡ bit_of l.from (l.shift + k);
}
