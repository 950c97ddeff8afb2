-- Tiles of a paper: squares of so many columns and picks, laid from column 0 and pick 0 on and cut at the paper's edge.
use Rattle.std.specs.Prelude.{ℕ, ◌+◌, ◌-◌, ◌*◌, ◌/◌, ◌%◌, ◌<◌, List, length, All}
use Rattle.mill_base.specs.Limits.{IsWithin}
use Rattle.mill_base.specs.declared.limits.TheConstants.{MAX_COLUMNS, MAX_PICKS, MAX_ENDS, MAX_FLOAT, MIN_TILE, MAX_TILE}

-- what contracts see of a grid: the size of the paper, the side of a tile, the column of each end of the tie, and how
-- many ends along a pick and how many picks along a column a change can reach
pub record GridValue : Type 0 where
  pub columns : ℕ
  pub picks : ℕ
  pub side : ℕ
  pub tie : List ℕ
  pub weft_limit : ℕ
  pub warp_limit : ℕ

-- how many tiles a line of so many places takes; the last one may be cut
unfoldable pub tiles_along : ℕ → ℕ → ℕ
tiles_along places side = (places + side - 1) / side

-- how many tiles stand side by side, and how many one above another
abbrev pub across : GridValue → ℕ
across grid = tiles_along grid.columns grid.side

abbrev pub down : GridValue → ℕ
down grid = tiles_along grid.picks grid.side

abbrev pub tiles : GridValue → ℕ
tiles grid = across grid * down grid

-- the tile in a tile column and a tile row: tiles are counted from the left, tile row by tile row from the bottom
abbrev pub tile_at : GridValue → ℕ → ℕ → ℕ
tile_at grid i j = j * across grid + i

-- the tile that covers the cell in a column of a pick
unfoldable pub tile_of : GridValue → ℕ → ℕ → ℕ
tile_of grid column pick = tile_at grid (column / grid.side) (pick / grid.side)

-- the tile column and the tile row of a tile
abbrev pub tile_column : GridValue → ℕ → ℕ
tile_column grid tile = tile % across grid

abbrev pub tile_row : GridValue → ℕ → ℕ
tile_row grid tile = tile / across grid

-- what holds of every grid that was built: all sizes are within the studio's limits, and each end is tied to a column
-- that is there
pub record IsTileGrid (grid : GridValue) : Type 0 where
  pub columns_limit : IsWithin 1 grid.columns MAX_COLUMNS
  pub picks_limit : IsWithin 1 grid.picks MAX_PICKS
  pub side_limit : IsWithin MIN_TILE grid.side MAX_TILE
  pub ends_limit : IsWithin 1 (length grid.tie) MAX_ENDS
  pub tied : All (λ column. column < grid.columns) grid.tie
  pub weft_within : IsWithin 1 grid.weft_limit MAX_FLOAT
  pub warp_within : IsWithin 1 grid.warp_limit MAX_FLOAT
