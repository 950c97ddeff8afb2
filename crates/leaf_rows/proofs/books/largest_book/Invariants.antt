use Rattle.std.proofs.Common.{◌≡◌, ◌+◌, length}
use Rattle.leaf_rows.proofs.books.largest_book.Given as goal

abbrev pub invariant-loop : goal.invariant-loop
invariant-loop l = length l.book + 1 ≡ l.counter
