use Rattle.std.proofs.Common.{◌≡◌, ◌*◌, ◌<◌, ◌≤◌, ℕ, false, length}
use Rattle.mill_base.specs.Bits.{bit_of}
use Rattle.mill_base.proofs.turning.clear_words.Given as goal

abbrev pub invariant-loop-index : goal.invariant-loop-index
invariant-loop-index l = record {
  long : length l.words ≡ length l.initial.words;
  below : (k : ℕ) → k < 64 * l.from → bit_of l.words k ≡ bit_of l.initial.words k;
  done : (k : ℕ) → 64 * l.from ≤ k → k < 64 * l.index → bit_of l.words k ≡ false;
}
