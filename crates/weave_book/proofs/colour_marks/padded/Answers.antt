use Rattle.std.proofs.Common.{get_or, ap, length}
use Rattle.weave_book.proofs.Kept.{filled_past}
use Rattle.weave_book.proofs.colour_marks.padded.Goals as goal

pub returns-clause-past : goal.returns-clause-past
returns-clause-past c j from within =
    filled_past c.copy_from_slice.new.self (length c.args.cells.now) (get_or c.args.cells.now 0 0) j (ap length c.copy_from_slice.ensures.after) from within
