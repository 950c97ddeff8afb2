-- Jobs and results as contracts see them, and what holds of every result.
use Rattle.std.specs.Prelude.{◌≡◌, ℕ, ◌<◌, Bool, List}
use Rattle.mill_base.specs.Grids.{GridCells}
use Rattle.draft_model.specs.declared.design.Design.{Design}
use Rattle.draft_model.specs.Designs.{Fits}
use Rattle.tile_grid.specs.Tiles.{tiles}
use Rattle.tile_rebuild.specs.declared.part.Part.{Part}
use Rattle.tile_rebuild.specs.declared.parts.Parts.{Parts}
use Rattle.tile_rebuild.specs.Tiles.{grid_at, part_at, parts_of}
use Rattle.tile_rebuild.specs.Rebuilds.{AreBound, IsFlag}

-- a tile with the colours of its lines
pub record ColourJob : Type 0 where
  pub parts : Parts
  pub tile : ℕ
  pub part : Part
  pub picks : List ℕ
  pub columns : List ℕ

-- a tile's bound cells, with the colours of the lines that they were made from
pub record BoundTile : Type 0 where
  pub parts : Parts
  pub tile : ℕ
  pub part : Part
  pub picks : List ℕ
  pub columns : List ℕ
  pub cells : GridCells

-- a tile with the bits of its lines
pub record BitJob : Type 0 where
  pub parts : Parts
  pub tile : ℕ
  pub part : Part
  pub picks : GridCells
  pub columns : GridCells

-- a tile's flag, with the bits of the lines that it was made from
pub record FlagTile : Type 0 where
  pub parts : Parts
  pub tile : ℕ
  pub part : Part
  pub picks : GridCells
  pub columns : GridCells
  pub flag : Bool

-- the tile is there, and its cells are the bound ones in every paper with the carried lines of a design with the kept parts
pub record IsBoundTile (done : BoundTile) : Type 0 where
  pub there : done.tile < tiles (grid_at done.parts)
  pub place : done.part ≡ part_at (grid_at done.parts) done.tile
  pub right : (design : Design) → Fits design → parts_of design ≡ done.parts → AreBound design done.tile done.picks done.columns done.cells

-- the tile is there, and its flag is right in every bit paper with the carried lines of a design with the kept parts
pub record IsFlagTile (done : FlagTile) : Type 0 where
  pub there : done.tile < tiles (grid_at done.parts)
  pub place : done.part ≡ part_at (grid_at done.parts) done.tile
  pub right : (design : Design) → Fits design → parts_of design ≡ done.parts → IsFlag design done.tile done.picks done.columns done.flag
