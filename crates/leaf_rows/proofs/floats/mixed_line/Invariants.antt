use Rattle.std.proofs.Common.{◌≡◌, length}
use Rattle.leaf_rows.proofs.floats.mixed_line.Given as goal

abbrev pub invariant-loop-k : goal.invariant-loop-k
invariant-loop-k l = length l.line ≡ l.len
