-- Rows of truth values of one width.
use Rattle.std.specs.Prelude.{◌≡◌, ℕ, ◌<◌, Bool, List, [], false, length, slice_index_or}
use Rattle.mill_base.specs.Lines.{line_by}

pub record GridCells : Type 0 where
  pub width : ℕ
  pub rows : List (List Bool)

-- row k
abbrev pub grid_row : GridCells → ℕ → List Bool
grid_row grid k = slice_index_or grid.rows k []

-- the truth value in a column of row k of a list of rows
abbrev pub row_cell : List (List Bool) → ℕ → ℕ → Bool
row_cell rows column k = slice_index_or (slice_index_or rows k []) column false

-- the truth value in a column of row k
abbrev pub grid_cell : GridCells → ℕ → ℕ → Bool
grid_cell grid column k = row_cell grid.rows column k

-- each row has the width
abbrev pub IsGrid : GridCells → Type 0
IsGrid grid = (k : ℕ) → k < length grid.rows → length (grid_row grid k) ≡ grid.width

-- the columns of a grid as rows, from column 0 on
abbrev pub transposed : GridCells → GridCells
transposed grid = record { width = length grid.rows; rows = line_by grid.width (λ column. line_by (length grid.rows) (grid_cell grid column)) }
