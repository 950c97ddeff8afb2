-- What the rebuilding of a whole paper, or of many of its tiles, works in.
use Rattle.std.specs.Prelude.{◌≡◌, length}
use Rattle.tile_grid.specs.Tiles.{tiles}
use Rattle.tile_rebuild.specs.declared.parts.Parts.{Parts}
use Rattle.tile_rebuild.specs.declared.some_tiles.LineRoom.{LineRoom}
use Rattle.tile_rebuild.specs.declared.whole.WholeRoom.{WholeRoom}
use Rattle.tile_rebuild.specs.Tiles.{grid_at}

-- rows and grids of the sizes that a whole paper of a design needs
pub record IsWholeRoom (parts : Parts) (room : WholeRoom) : Type 0 where
  pub raw_wide : room.raw.width ≡ parts.size.columns
  pub raw_high : length room.raw.rows ≡ parts.size.picks
  pub turned_wide : room.turned.width ≡ parts.size.picks
  pub turned_high : length room.turned.rows ≡ parts.size.columns
  pub long_wide : room.long.width ≡ parts.size.columns
  pub long_high : length room.long.rows ≡ parts.size.picks
  pub line : length room.line ≡ parts.size.picks
  pub ends : length room.ends ≡ length parts.tie.ends
  pub ends_long : length room.ends_long ≡ length parts.tie.ends
  pub columns : length room.columns ≡ parts.size.columns
  pub colours : length room.colours.items ≡ parts.size.columns

-- a row with a position for each column, one with a position for each pick, and one with a position for each tile
pub record IsLineRoom (parts : Parts) (room : LineRoom) : Type 0 where
  pub columns : length room.columns ≡ parts.size.columns
  pub picks : length room.picks ≡ parts.size.picks
  pub found : length room.found ≡ tiles (grid_at parts)
