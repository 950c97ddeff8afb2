use Rattle.std.proofs.Common.{◌≡◌, ℕ, ◌-◌, ◌*◌, ◌/◌, ◌<◌, false, length, get_or}
use Rattle.weave_book.specs.Weaves.{mark}
use Rattle.weave_book.specs.inner.Parts.{AreCells}
use Rattle.weave_book.proofs.weaves.Weave.put_row.Given as goal

abbrev pub invariant-loop-at : goal.invariant-loop-at
invariant-loop-at l = record {
  word : AreCells (λ c. mark l.self c l.pick) (64 * (l.at - 1)) 64 l.word;
  long : length l.out ≡ length l.initial.out;
  marks : (k : ℕ) → k / 64 < l.at → k < length l.out → get_or l.out k false ≡ mark l.self k l.pick;
}
