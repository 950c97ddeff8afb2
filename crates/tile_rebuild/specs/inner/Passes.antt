-- On the way through a whole paper, whose cells stand in a grid with a row for each pick.
use Rattle.std.specs.Prelude.{◌≡◌, ℕ, ◌<◌, ◌==◌, ◌&&◌, Bool, List, false, true, slice_index_or}
use Rattle.mill_base.specs.Below.{any_below}
use Rattle.mill_base.specs.Grids.{GridCells, grid_cell}
use Rattle.mill_base.specs.Lines.{line_by}
use Rattle.cloth_floats.specs.Windows.{is_long}
use Rattle.draft_model.specs.declared.design.Design.{Design}
use Rattle.draft_model.specs.Cells.{bound_by, long_cell_by}
use Rattle.tile_grid.specs.Tiles.{tile_of}
use Rattle.tile_rebuild.specs.Tiles.{grid_of}

-- the grid has these cells in the columns of the first picks
abbrev pub HasCells : Design → ℕ → (ℕ → ℕ → Bool) → GridCells → Type 0
HasCells design count cell grid = (c p : ℕ) → c < design.size.columns → p < count → grid_cell grid c p ≡ cell c p

-- a grid says whether a column of another is long at a pick
abbrev pub IsEndLong : Design → GridCells → GridCells → ℕ → ℕ → Type 0
IsEndLong design raw long c p = grid_cell long c p ≡ is_long (line_by design.size.picks (λ y. grid_cell raw c y)) design.warp_face design.warp_back p

-- where the columns of a grid are long
abbrev pub AreEndsLong : Design → GridCells → GridCells → Type 0
AreEndsLong design raw long = (c p : ℕ) → c < design.size.columns → p < design.size.picks → IsEndLong design raw long c p

-- where those of its columns are that are asked for
abbrev pub AreSomeLong : Design → List Bool → GridCells → GridCells → Type 0
AreSomeLong design columns raw long = (c p : ℕ) → c < design.size.columns → p < design.size.picks → slice_index_or columns c false ≡ true → IsEndLong design raw long c p

-- the column and the pick of each cell of some tiles are asked for
abbrev pub HaveLines : Design → List Bool → List Bool → List Bool → Type 0
HaveLines design tiles columns picks = (c p : ℕ) → c < design.size.columns → p < design.size.picks → slice_index_or tiles (tile_of (grid_of design) c p) false ≡ true
    → (slice_index_or columns c false ≡ true) × (slice_index_or picks p false ≡ true)

-- the cell of a grid is long, and its bound cell, by its pick and its column
abbrev pub grid_long : Design → GridCells → ℕ → ℕ → Bool
grid_long design raw c p = long_cell_by design (λ x. grid_cell raw x p) (λ y. grid_cell raw c y) c p

abbrev pub grid_bound : Design → GridCells → ℕ → ℕ → Bool
grid_bound design raw c p = bound_by design (λ x. grid_cell raw x p) (λ y. grid_cell raw c y) c p

-- a row says which columns of a grid are long at a pick, those of which another grid knows where they are long themselves
abbrev pub AreMarks : Design → GridCells → GridCells → List Bool → ℕ → Type 0
AreMarks design raw long marks p = (c : ℕ) → c < design.size.columns → IsEndLong design raw long c p → slice_index_or marks c false ≡ grid_long design raw c p

-- some cell that a tile has in a pick passes a test of its column
abbrev pub any_in_pick : Design → ℕ → ℕ → (ℕ → Bool) → Bool
any_in_pick design tile p test = any_below (λ c. tile_of (grid_of design) c p == tile && test c) design.size.columns
