use Rattle.std.proofs.Common.{◌≡◌, length}
use Rattle.studio_bench.proofs.tied.gather_by_end.Given as goal

abbrev pub invariant-loop-end : goal.invariant-loop-end
invariant-loop-end l = length l.columns ≡ l.tie.columns
