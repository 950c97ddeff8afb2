use Rattle.std.proofs.Common.{◌≡◌, length}
use Rattle.studio_bench.proofs.random.row.Given as goal

abbrev pub invariant-loop-at : goal.invariant-loop-at
invariant-loop-at l = length l.row ≡ l.len
