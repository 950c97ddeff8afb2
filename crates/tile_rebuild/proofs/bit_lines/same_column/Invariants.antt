use Rattle.std.proofs.Common.{◌≡◌, ◌<◌, ℕ}
use Rattle.mill_base.specs.Grids.{grid_cell}
use Rattle.point_paper.specs.Papers.{bit_cell}
use Rattle.tile_rebuild.proofs.bit_lines.same_column.Given as goal

abbrev pub invariant-loop-pick : goal.invariant-loop-pick
invariant-loop-pick l = (y : ℕ) → y < l.pick → grid_cell l.kept y l.row ≡ bit_cell l.bits l.column y
