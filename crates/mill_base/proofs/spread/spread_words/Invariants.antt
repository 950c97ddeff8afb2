use Rattle.std.proofs.Common.{◌≡◌, ◌*◌, ◌<◌, ℕ, cond, get_or, length}
use Rattle.mill_base.specs.Bits.{bit_of}
use Rattle.mill_base.proofs.spread.spread_words.Given as goal

abbrev pub invariant-loop-index : goal.invariant-loop-index
invariant-loop-index l = record {
  len : length l.out ≡ length l.fn.out;
  done : (k : ℕ) → k < 64 * l.index → get_or l.out k 0 ≡ cond (bit_of l.words k) l.on l.off;
}
