-- What is right for the lines that cross a tile, whatever else stands in a paper.
use Rattle.std.specs.Prelude.{◌≡◌, ℕ, ◌-◌, ◌<◌, Bool, List, length}
use Rattle.mill_base.specs.Grids.{GridCells, grid_cell}
use Rattle.point_paper.specs.Papers.{PaperCells, BitCells, bit_cell}
use Rattle.draft_model.specs.declared.design.Design.{Design}
use Rattle.draft_model.specs.Designs.{IsPaperOf, IsBitsOf}
use Rattle.tile_rebuild.specs.declared.part.Part.{Part}
use Rattle.tile_rebuild.specs.declared.parts.Parts.{Parts}
use Rattle.tile_rebuild.specs.Tiles.{AgreeIn, HasCell, grid_of, part_at, bound_in, has_long}
use Rattle.tile_rebuild.specs.Lines.{AreColoursOf, AreBitsOf, item_of}
use Rattle.tile_rebuild.specs.declared.room.Room.{Room}
use Rattle.tile_rebuild.specs.declared.room.BindRows.{BindRows}

-- the cell in a column of a pick of the paper, from the grid of a part's cells, which begins with the part's first column and pick
abbrev pub cell_in : Part → GridCells → ℕ → ℕ → Bool
cell_in part cells c p = grid_cell cells (c - part.column) (p - part.pick)

-- the tile's cells are the bound ones of every paper of the design that has these lines
abbrev pub AreBound : Design → ℕ → List ℕ → List ℕ → GridCells → Type 0
AreBound design tile along up cells = (paper : PaperCells) → IsPaperOf design paper → AreColoursOf (part_at (grid_of design) tile) paper along up
    → AgreeIn (grid_of design) tile (cell_in (part_at (grid_of design) tile) cells) (bound_in design paper)

-- the flag says of every bit paper of the design that has these lines whether a cell of the tile is long
abbrev pub IsFlag : Design → ℕ → GridCells → GridCells → Bool → Type 0
IsFlag design tile along up flag = (bits : BitCells) → IsBitsOf design bits → AreBitsOf (part_at (grid_of design) tile) bits along up
    → flag ≡ has_long design bits tile

-- each colour of the lines has a weave of the book
pub record HaveWeaves (parts : Parts) (part : Part) (along up : List ℕ) : Type 0 where
  pub along_picks : (b x : ℕ) → b < part.height → x < parts.size.columns → item_of parts.size.columns along b x < length parts.book
  pub up_columns : (a y : ℕ) → a < part.width → y < parts.size.picks → item_of parts.size.picks up a y < length parts.book

-- rows and grids of the sizes that a design's tiles need on the way to long cells
pub record IsRoom (parts : Parts) (room : Room) : Type 0 where
  pub ends : length room.ends ≡ length parts.tie.ends
  pub ends_long : length room.ends_long ≡ length parts.tie.ends
  pub long : length room.long ≡ parts.size.columns
  pub up_long : length room.up_long ≡ parts.size.picks
  pub span : length room.span ≡ parts.tile
  pub turned_wide : room.turned.width ≡ parts.tile
  pub turned_high : length room.turned.rows ≡ parts.tile
  pub hits_wide : room.hits.width ≡ parts.tile
  pub hits_high : length room.hits.rows ≡ parts.tile

-- and on the way to bound ones
pub record AreRows (parts : Parts) (rows : BindRows) : Type 0 where
  pub raw : length rows.raw ≡ parts.size.columns
  pub up : length rows.up ≡ parts.size.picks
  pub raise : length rows.raise ≡ parts.size.columns
  pub sink : length rows.sink ≡ parts.size.columns
  pub bound : length rows.bound ≡ parts.size.columns
  pub span : length rows.span ≡ parts.tile

-- the grid has a position for each column of a tile in a row for each of its picks
pub record IsTileRoom (parts : Parts) (cells : GridCells) : Type 0 where
  pub wide : cells.width ≡ parts.tile
  pub high : length cells.rows ≡ parts.tile

-- a bit paper in which the part's cells are those of a grid, and all others those of the paper before
pub record IsPut (part : Part) (cells : GridCells) (old new : BitCells) : Type 0 where
  pub wide : new.columns ≡ old.columns
  pub tall : length new.rows ≡ length old.rows
  pub here : (c p : ℕ) → HasCell part c p → bit_cell new c p ≡ cell_in part cells c p
  pub others : (c p : ℕ) → (HasCell part c p → ⊥) → bit_cell new c p ≡ bit_cell old c p
