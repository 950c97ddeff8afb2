use Rattle.std.proofs.Common.{◌≡◌, ◌≢◌, ◌+◌, ◌*◌, ◌/◌, ◌%◌, ◌<◌, ◌==◌, ℕ, cond, get_or, length}
use Rattle.std.specs.Int.{bit_at}
use Rattle.mill_base.proofs.spread.put_word.Given as goal

abbrev pub invariant-loop-quarter : goal.invariant-loop-quarter
invariant-loop-quarter l = record {
  len : length l.out ≡ length l.fn.out;
  here : (k : ℕ) → k / 64 ≡ l.index → k < 64 * l.index + 16 * l.quarter → get_or l.out k 0 ≡ cond (bit_at l.word (k % 64) == 1) l.on l.off;
  others : (k : ℕ) → k / 64 ≢ l.index → get_or l.out k 0 ≡ get_or l.fn.out k 0;
}
