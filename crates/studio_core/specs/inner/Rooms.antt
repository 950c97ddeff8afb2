-- What a core gathers and rebuilds tiles in.
use Rattle.std.specs.Prelude.{◌≡◌, ◌*◌, length}
use Rattle.draft_model.specs.declared.design.Design.{Design}
use Rattle.tile_grid.specs.Tiles.{tiles}
use Rattle.tile_rebuild.specs.Rebuilds.{AreRows, IsRoom, IsTileRoom}
use Rattle.tile_rebuild.specs.Tiles.{grid_of, parts_of}
use Rattle.tile_rebuild.specs.Wholes.{IsLineRoom, IsWholeRoom}
use Rattle.studio_core.specs.declared.rooms.Rooms.{Rooms}

-- there is room for any tile of the design, for all and for some of them at once, and for two sets of tiles
pub record AreRooms (design : Design) (rooms : Rooms) : Type 0 where
  pub for_picks : length rooms.colours.picks.items ≡ design.tile * design.size.columns
  pub for_columns : length rooms.colours.columns.items ≡ design.tile * design.size.picks
  pub picks_wide : rooms.lines.picks.width ≡ design.size.columns
  pub picks_high : length rooms.lines.picks.rows ≡ design.tile
  pub columns_wide : rooms.lines.columns.width ≡ design.size.picks
  pub columns_high : length rooms.lines.columns.rows ≡ design.tile
  pub for_rows : AreRows (parts_of design) rooms.rows
  pub for_long : IsRoom (parts_of design) rooms.long
  pub for_cells : IsTileRoom (parts_of design) rooms.cells
  pub for_row : length rooms.row ≡ design.size.columns
  pub for_whole : IsWholeRoom (parts_of design) rooms.whole
  pub for_marked : IsLineRoom (parts_of design) rooms.marked
  pub for_touched : length rooms.touched ≡ tiles (grid_of design)
  pub for_near : length rooms.near ≡ tiles (grid_of design)
