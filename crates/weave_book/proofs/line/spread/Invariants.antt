use Rattle.std.proofs.Common.{◌≡◌, ℕ, ◌-◌, ◌<◌, ◌≤◌, Bool, min}
use Rattle.std.specs.Int.{bit_at}
use Rattle.weave_book.specs.inner.Parts.{AreCells, Repeats}
use Rattle.weave_book.proofs.line.spread.Given as goal

abbrev pub invariant-loop-filled : goal.invariant-loop-filled
invariant-loop-filled l = record {
  some : 0 < l.filled;
  few : l.filled < 128;
  past : (j : ℕ) → l.filled ≤ j → j < 64 → bit_at l.spread j ≡ 0;
  cells : (line : ℕ → Bool) (from : ℕ) → Repeats line l.count → AreCells line from l.count l.word → Repeats line l.filled × AreCells line from (min l.filled 64) l.spread;
}

abbrev pub decreases-loop-filled : goal.decreases-loop-filled
decreases-loop-filled l = 64 - l.filled
