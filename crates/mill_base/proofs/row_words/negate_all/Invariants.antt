use Rattle.std.proofs.Common.{◌≡◌, ◌<◌, ◌≤◌, ◌*◌, ℕ, not, length}
use Rattle.mill_base.specs.Bits.{bit_of}
use Rattle.mill_base.proofs.row_words.negate_all.Given as goal

abbrev pub invariant-loop-index : goal.invariant-loop-index
invariant-loop-index l = record {
  long : length l.words.items ≡ length l.fn.words.items;
  done : (k : ℕ) → k < 64 * l.index → bit_of l.words.items k ≡ not (bit_of l.fn.words.items k);
  rest : (k : ℕ) → 64 * l.index ≤ k → bit_of l.words.items k ≡ bit_of l.fn.words.items k;
}
