-- What a grid keeps.
use Rattle.mill_base.specs.Grids.{GridCells}
use Rattle.tile_grid.specs.Tiles.{GridValue, IsTileGrid, across, down}
use Rattle.tile_grid.specs.Near.{near_columns, near_rows}
use Rattle.tile_grid.specs.inner.Tables.{IsTable}

-- a grid within the studio's limits, and the tables of its near tile columns and its near tile rows
pub record IsKept (grid : GridValue) (columns rows : GridCells) : Type 0 where
  pub whole : IsTileGrid grid
  pub columns_kept : IsTable (across grid) (near_columns grid) columns
  pub rows_kept : IsTable (down grid) (near_rows grid) rows
