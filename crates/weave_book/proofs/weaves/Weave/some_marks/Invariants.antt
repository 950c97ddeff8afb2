use Rattle.std.proofs.Common.{◌≡◌, ℕ, ◌<◌, ◌≤◌}
use Rattle.std.specs.Int.{bit_at}
use Rattle.weave_book.specs.Weaves.{mark}
use Rattle.weave_book.specs.inner.Parts.{AreCells}
use Rattle.weave_book.proofs.weaves.Weave.some_marks.Given as goal

abbrev pub invariant-loop-j : goal.invariant-loop-j
invariant-loop-j l = record {
  marks : AreCells (λ c. mark l.self c l.pick) l.from l.j l.word;
  past : (i : ℕ) → l.j ≤ i → i < 64 → bit_at l.word i ≡ 0;
}
