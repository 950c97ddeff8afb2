use Rattle.std.proofs.Common.{◌≡◌, ℕ, ◌+◌, ◌*◌, ◌<◌, slice_index}
use Rattle.point_paper.proofs.paper.copy_column.Given as goal

abbrev pub invariant-loop-pick : goal.invariant-loop-pick
invariant-loop-pick l = (k : ℕ) → k < l.pick → slice_index l.out k ≡ slice_index l.colours (k * l.columns + l.column)
