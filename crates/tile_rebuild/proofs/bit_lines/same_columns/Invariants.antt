use Rattle.std.proofs.Common.{◌≡◌, ◌+◌, ◌<◌, ℕ, length}
use Rattle.mill_base.specs.Grids.{grid_cell}
use Rattle.point_paper.specs.Papers.{bit_cell}
use Rattle.tile_rebuild.proofs.bit_lines.same_columns.Given as goal

abbrev pub invariant-loop-a : goal.invariant-loop-a
invariant-loop-a l = (a y : ℕ) → a < l.a → y < length l.bits.rows → grid_cell l.kept y a ≡ bit_cell l.bits (l.part.column + a) y
