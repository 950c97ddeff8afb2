use Rattle.std.proofs.Common.{◌≡◌, ℕ, ◌+◌, ◌*◌, ◌<◌, ◌==◌, get_or}
use Rattle.std.specs.Int.{bit_at}
use Rattle.weave_book.specs.Books.{colour_mark}
use Rattle.weave_book.specs.inner.MarksOf.{IsOf}
use Rattle.weave_book.proofs.colour_marks.ColourMarks.marks.Given as goal

abbrev pub invariant-loop-left : goal.invariant-loop-left
invariant-loop-left l = record {
  same : IsOf l.initial.self.weaves.now l.initial.self.pick l.self;
  marks : (j : ℕ) → j < 64 → bit_at l.left j ≡ 0 → (bit_at l.marks j == 1) ≡ colour_mark l.initial.self.weaves.now (get_or l.cells j 0) (64 * l.at + j) l.initial.self.pick;
}

abbrev pub decreases-loop-left : goal.decreases-loop-left
decreases-loop-left l = l.left
