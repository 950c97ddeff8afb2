use Rattle.std.proofs.Common.{◌≡◌, ◌≢◌, ◌<◌, ℕ, [], length, get_or}
use Rattle.mill_base.specs.Grids.{grid_cell}
use Rattle.point_paper.specs.Papers.{bit_cell}
use Rattle.tile_rebuild.proofs.bit_lines.copy_column.Given as goal

abbrev pub invariant-loop-pick : goal.invariant-loop-pick
invariant-loop-pick l = record {
  width : l.out.width ≡ l.fn.out.width;
  height : length l.out.rows ≡ length l.fn.out.rows;
  row : length (get_or l.out.rows l.row []) ≡ l.fn.out.width;
  here : (y : ℕ) → y < l.pick → grid_cell l.out y l.row ≡ bit_cell l.bits l.column y;
  others : (j : ℕ) → j ≢ l.row → get_or l.out.rows j [] ≡ get_or l.fn.out.rows j [];
}
