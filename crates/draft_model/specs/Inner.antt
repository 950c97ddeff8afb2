-- What the private functions of this crate speak of on the way to a bound paper.
use Rattle.std.specs.Prelude.{◌≡◌, ℕ, ◌==◌, Bool, ◌&&◌, ◌||◌, List, length, slice_index, slice_index_or, false}
use Rattle.mill_base.specs.Below.{any_below}
use Rattle.mill_base.specs.Grids.{GridCells, grid_cell, grid_row}
use Rattle.mill_base.specs.Lines.{line_by}
use Rattle.harness_ties.specs.Ties.{tied, gathered}
use Rattle.cloth_floats.specs.Windows.{is_long, long_of}
use Rattle.point_paper.specs.Papers.{BitCells}
use Rattle.draft_model.specs.declared.design.Design.{Design}

-- a grid as a paper of truth values
abbrev pub bits_of : GridCells → BitCells
bits_of grid = record { columns = grid.width; rows = grid.rows }

-- a paper of truth values as a grid
abbrev pub grid_cells : BitCells → GridCells
grid_cells bits = record { width = bits.columns; rows = bits.rows }

-- the grid has the design's columns and picks
pub record IsGridOf (design : Design) (grid : GridCells) : Type 0 where
  pub columns : grid.width ≡ design.size.columns
  pub picks : length grid.rows ≡ design.size.picks

-- the line of a column is long at a pick
abbrev pub end_long : Design → GridCells → ℕ → ℕ → Bool
end_long design raw column pick = is_long (line_by design.size.picks (λ y. grid_cell raw column y)) design.warp_face design.warp_back pick

-- a row of the columns: whether some end of the column is long on the cloth of the raw row, or the column was long before
abbrev pub pick_long : Design → List Bool → List Bool → ℕ → Bool
pick_long design raw before column =
    any_below (λ e. slice_index design.tie.ends e == column && is_long (tied design.tie.ends raw) design.weft_back design.weft_face e) (length design.tie.ends)
    || slice_index_or before column false
