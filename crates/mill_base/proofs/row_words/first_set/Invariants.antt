use Rattle.std.proofs.Common.{◌≡◌, ◌-◌, ◌*◌, ◌^◌, ◌≤◌, ◌<◌, ℕ, false, length}
use Rattle.mill_base.specs.Bits.{bit_of}
use Rattle.mill_base.proofs.row_words.first_set.Given as goal

abbrev pub invariant-loop-place : goal.invariant-loop-place
invariant-loop-place l = record {
  ahead : l.from ≤ l.place;
  bound : l.place < 2 ^ 64 - 64;
  before : (j : ℕ) → l.from ≤ j → j < l.place → bit_of l.words j ≡ false;
}

abbrev pub decreases-loop-place : goal.decreases-loop-place
decreases-loop-place l = 64 * length l.words - l.place
