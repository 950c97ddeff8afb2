use Rattle.std.proofs.Common.{◌≡◌, ℕ, ◌<◌, get_or}
use Rattle.weave_book.specs.Rows.{row_of}
use Rattle.weave_book.proofs.rows.same_rows.Given as goal

abbrev pub invariant-loop-p : goal.invariant-loop-p
invariant-loop-p l = (q : ℕ) → q < l.p → row_of l.width (get_or l.one q 0) ≡ row_of l.width (get_or l.other q 0)
