use Rattle.std.proofs.Common.{◌≡◌, length}
use Rattle.leaf_rows.proofs.floats.line_of.Given as goal

abbrev pub invariant-loop-k : goal.invariant-loop-k
invariant-loop-k l = length l.line ≡ length l.cells
