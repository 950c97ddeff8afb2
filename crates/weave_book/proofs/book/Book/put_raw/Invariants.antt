use Rattle.std.proofs.Common.{◌≡◌, ℕ, ◌/◌, ◌<◌, false, length, get_or}
use Rattle.weave_book.specs.Books.{colour_mark}
use Rattle.weave_book.specs.inner.MarksOf.{IsOf}
use Rattle.weave_book.proofs.book.Book.put_raw.Given as goal

abbrev pub invariant-loop-at : goal.invariant-loop-at
invariant-loop-at l = record {
  same : IsOf l.self l.pick l.marks;
  long : length l.out ≡ length l.initial.out;
  cells : (k : ℕ) → k / 64 < l.at → k < length l.out → get_or l.out k false ≡ colour_mark l.self (get_or l.colours k 0) k l.pick;
}
