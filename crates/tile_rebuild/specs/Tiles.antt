-- The tiles of a design's paper, where each of them lies, and what is asked of the cells of one.
use Rattle.std.specs.Prelude.{◌≡◌, ℕ, ◌+◌, ◌-◌, ◌*◌, ◌<◌, ◌≤◌, min, max, Bool, true}
use Rattle.mill_base.specs.declared.limits.TheConstants.{MAX_COLUMNS, MAX_PICKS}
use Rattle.point_paper.specs.Papers.{PaperCells, BitCells, bit_cell}
use Rattle.draft_model.specs.declared.design.Design.{Design}
use Rattle.draft_model.specs.Drawdowns.{bound, column_long}
use Rattle.tile_grid.specs.Tiles.{GridValue, tile_column, tile_row, tile_of}
use Rattle.tile_grid.specs.Near.{any_cell, near}
use Rattle.tile_rebuild.specs.declared.part.Part.{Part}
use Rattle.tile_rebuild.specs.declared.parts.Parts.{Parts}

-- what of a design the rebuilding of a tile uses: all but the casting
abbrev pub parts_of : Design → Parts
parts_of design = record {
  size = design.size;
  book = design.book;
  tie = design.tie;
  raise = design.raise;
  sink = design.sink;
  weft_face = design.weft_face;
  weft_back = design.weft_back;
  warp_face = design.warp_face;
  warp_back = design.warp_back;
  tile = design.tile;
}

-- the grid of a design's tiles, with the greater one of the two weft limits and of the two warp limits
abbrev pub grid_at : Parts → GridValue
grid_at parts = record {
  columns = parts.size.columns;
  picks = parts.size.picks;
  side = parts.tile;
  tie = parts.tie.ends;
  weft_limit = max parts.weft_back parts.weft_face;
  warp_limit = max parts.warp_face parts.warp_back;
}

abbrev pub grid_of : Design → GridValue
grid_of design = grid_at (parts_of design)

-- a tile's first column and first pick, and how many it has of both, since the paper's edge may cut it
unfoldable pub part_at : GridValue → ℕ → Part
part_at grid tile = record {
  column = tile_column grid tile * grid.side;
  pick = tile_row grid tile * grid.side;
  width = min grid.side (grid.columns - tile_column grid tile * grid.side);
  height = min grid.side (grid.picks - tile_row grid tile * grid.side);
}

-- the part lies inside a paper of so many columns and picks, which are within the studio's limits
pub record IsInside (columns picks : ℕ) (part : Part) : Type 0 where
  pub columns_limit : columns ≤ MAX_COLUMNS
  pub picks_limit : picks ≤ MAX_PICKS
  pub wide : part.column + part.width ≤ columns
  pub high : part.pick + part.height ≤ picks

-- the part has the cell in a column of a pick
pub record HasCell (part : Part) (c p : ℕ) : Type 0 where
  pub from_column : part.column ≤ c
  pub to_column : c < part.column + part.width
  pub from_pick : part.pick ≤ p
  pub to_pick : p < part.pick + part.height

-- two papers, by the formulas of their cells, agree on all tiles that are near a tile
abbrev pub AgreeNear : {A : Type 0} → GridValue → ℕ → (ℕ → ℕ → A) → (ℕ → ℕ → A) → Type 0
AgreeNear grid tile one other = (c p : ℕ) → c < grid.columns → p < grid.picks → near grid tile (tile_of grid c p) ≡ true → one c p ≡ other c p

-- two papers agree on one tile
abbrev pub AgreeIn : {A : Type 0} → GridValue → ℕ → (ℕ → ℕ → A) → (ℕ → ℕ → A) → Type 0
AgreeIn grid tile one other = (c p : ℕ) → c < grid.columns → p < grid.picks → tile_of grid c p ≡ tile → one c p ≡ other c p

-- the bound cells of a paper
abbrev pub bound_in : Design → PaperCells → ℕ → ℕ → Bool
bound_in design paper c p = bit_cell (bound design paper) c p

-- a cell of a tile is long: some end of its column is, at its pick, on the cloth of these cells
unfoldable pub has_long : Design → BitCells → ℕ → Bool
has_long design bits tile = any_cell (grid_of design) tile (column_long design bits)
