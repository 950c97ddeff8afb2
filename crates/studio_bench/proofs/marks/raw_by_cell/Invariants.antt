use Rattle.std.proofs.Common.{◌≡◌, length}
use Rattle.studio_bench.proofs.marks.raw_by_cell.Given as goal

abbrev pub invariant-loop-column : goal.invariant-loop-column
invariant-loop-column l = length l.row ≡ length l.colours
