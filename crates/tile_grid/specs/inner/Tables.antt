-- Tables of truth values, and the tiles that two rows of them name.
use Rattle.std.specs.Prelude.{◌≡◌, ℕ, ◌*◌, ◌/◌, ◌%◌, ◌<◌, ◌==◌, Bool, true, false, ◌&&◌, ◌||◌, List, length, slice_index_or}
use Rattle.mill_base.specs.Below.{count_below}
use Rattle.mill_base.specs.Grids.{GridCells, grid_row}
use Rattle.mill_base.specs.Lines.{line_by}

-- the grid has n rows, and each has n positions by the formula of row and position
pub record IsTable (n : ℕ) (cell : ℕ → ℕ → Bool) (grid : GridCells) : Type 0 where
  pub width : grid.width ≡ n
  pub height : length grid.rows ≡ n
  pub lines : (i : ℕ) → i < n → grid_row grid i ≡ line_by n (cell i)

-- of the tiles of two rows of tile columns and tile rows: tile u stands in tile row j and in a true tile column, or in
-- tile column i and in a true tile row
abbrev pub is_crossed : List Bool → List Bool → ℕ → ℕ → ℕ → Bool
is_crossed columns rows i j u =
    (j == u / length columns && slice_index_or columns (u % length columns) false)
    || (i == u % length columns && slice_index_or rows (u / length columns) false)

-- position u of a row is true, and so many true positions stand before it
pub record IsTrueAt (row : List Bool) (k u : ℕ) : Type 0 where
  pub within : u < length row
  pub here : slice_index_or row u false ≡ true
  pub before : count_below (λ x. slice_index_or row x false) u ≡ k

-- u is the k-th such tile, counted from 0 in rising order
pub record IsCrossedAt (columns rows : List Bool) (i j k u : ℕ) : Type 0 where
  pub there : u < length columns * length rows
  pub here : is_crossed columns rows i j u ≡ true
  pub before : count_below (is_crossed columns rows i j) u ≡ k
