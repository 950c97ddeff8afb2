use Rattle.std.proofs.Common.{◌≡◌, length}
use Rattle.studio_bench.proofs.tied.lay_by_end.Given as goal

abbrev pub invariant-loop-end : goal.invariant-loop-end
invariant-loop-end l = length l.ends ≡ length l.tie.ends
