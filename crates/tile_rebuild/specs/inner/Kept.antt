-- What holds of the fields of jobs and results.
use Rattle.std.specs.Prelude.{◌≡◌, ℕ, ◌<◌, ◌≤◌, List}
use Rattle.mill_base.specs.Grids.{GridCells}
use Rattle.tile_grid.specs.Tiles.{tiles}
use Rattle.tile_rebuild.specs.declared.part.Part.{Part}
use Rattle.tile_rebuild.specs.declared.parts.Parts.{Parts}
use Rattle.tile_rebuild.specs.declared.room.BindRows.{BindRows}
use Rattle.tile_rebuild.specs.declared.room.Room.{Room}
use Rattle.tile_rebuild.specs.Tiles.{IsInside, grid_at, part_at}
use Rattle.tile_rebuild.specs.Lines.{HaveColourRoom, HaveBitRoom}
use Rattle.tile_rebuild.specs.Rebuilds.{AreRows, HaveWeaves, IsRoom, IsTileRoom}
use Rattle.tile_rebuild.specs.Values.{BoundTile, FlagTile, IsBoundTile, IsFlagTile}

-- the part is that of a tile of the design, and lies in its paper
pub record IsPartOf (parts : Parts) (tile : ℕ) (part : Part) : Type 0 where
  pub there : tile < tiles (grid_at parts)
  pub place : part ≡ part_at (grid_at parts) tile
  pub inside : IsInside parts.size.columns parts.size.picks part
  pub wide : part.width ≤ parts.tile
  pub high : part.height ≤ parts.tile

-- a tile may be bound from its lines
pub record IsBindReady (parts : Parts) (tile : ℕ) (part : Part) (along up : List ℕ) (rows : BindRows) (room : Room) (cells : GridCells) : Type 0 where
  pub of_tile : IsPartOf parts tile part
  pub for_lines : HaveColourRoom parts.size.columns parts.size.picks part along up
  pub with_weaves : HaveWeaves parts part along up
  pub for_rows : AreRows parts rows
  pub for_long : IsRoom parts room
  pub for_cells : IsTileRoom parts cells

-- and checked by them
pub record IsCheckReady (parts : Parts) (tile : ℕ) (part : Part) (along up : GridCells) (room : Room) : Type 0 where
  pub of_tile : IsPartOf parts tile part
  pub for_lines : HaveBitRoom parts.size.columns parts.size.picks part along up
  pub for_long : IsRoom parts room

pub record IsBindKept (done : BoundTile) : Type 0 where
  pub of_tile : IsPartOf done.parts done.tile done.part
  pub for_lines : HaveColourRoom done.parts.size.columns done.parts.size.picks done.part done.picks done.columns
  pub for_cells : IsTileRoom done.parts done.cells
  pub is_right : IsBoundTile done

pub record IsCheckKept (done : FlagTile) : Type 0 where
  pub of_tile : IsPartOf done.parts done.tile done.part
  pub for_lines : HaveBitRoom done.parts.size.columns done.parts.size.picks done.part done.picks done.columns
  pub is_right : IsFlagTile done
