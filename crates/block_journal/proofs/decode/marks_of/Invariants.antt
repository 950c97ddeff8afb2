use Rattle.std.proofs.Common.{◌≡◌, ◌*◌, ◌++◌, length, drop}
use Rattle.std.specs.Prelude.{All}
use Rattle.block_journal.specs.Journals.{Fits, marks_bytes}
use Rattle.block_journal.proofs.decode.marks_of.Given as goal

abbrev pub invariant-loop-index : goal.invariant-loop-index
invariant-loop-index l = record { count : length l.marks.items ≡ l.index; fits : All Fits l.marks.items; bytes : marks_bytes l.marks.items ++ drop (12 * l.index) l.bytes ≡ l.bytes }
