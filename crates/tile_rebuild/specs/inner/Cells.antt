-- On the way from the lines that cross a tile to its cells.
use Rattle.std.specs.Prelude.{◌≡◌, ℕ, ◌+◌, ◌<◌, Bool, List}
use Rattle.mill_base.specs.Grids.{GridCells, grid_cell}
use Rattle.mill_base.specs.Lines.{line_by}
use Rattle.weave_book.specs.Books.{colour_mark}
use Rattle.cloth_floats.specs.Windows.{is_long}
use Rattle.draft_model.specs.declared.design.Design.{Design}
use Rattle.draft_model.specs.Cells.{bound_by, long_cell_by}
use Rattle.tile_rebuild.specs.declared.part.Part.{Part}
use Rattle.tile_rebuild.specs.Lines.{item_of}

-- the raw cells of lines of colours
abbrev pub raw_along : Design → Part → List ℕ → ℕ → ℕ → Bool
raw_along design part along b x = colour_mark design.book (item_of design.size.columns along b x) x (part.pick + b)

abbrev pub raw_up : Design → Part → List ℕ → ℕ → ℕ → Bool
raw_up design part up a y = colour_mark design.book (item_of design.size.picks up a y) (part.column + a) y

-- row a of the grid says where the part's a-th column is long at its picks, for the first columns of the part
abbrev pub AreRowsLong : Design → Part → ℕ → (ℕ → ℕ → Bool) → GridCells → Type 0
AreRowsLong design part count up turned = (a b : ℕ) → a < count → b < part.height
    → grid_cell turned b a ≡ is_long (line_by design.size.picks (up a)) design.warp_face design.warp_back (part.pick + b)

-- the same, with the part's picks as rows
abbrev pub AreColumnsLong : Design → Part → (ℕ → ℕ → Bool) → GridCells → Type 0
AreColumnsLong design part up hits = (a b : ℕ) → a < part.width → b < part.height
    → grid_cell hits a b ≡ is_long (line_by design.size.picks (up a)) design.warp_face design.warp_back (part.pick + b)

-- the cell of a part is long, by its lines
abbrev pub is_long_in : Design → Part → (ℕ → ℕ → Bool) → (ℕ → ℕ → Bool) → ℕ → ℕ → Bool
is_long_in design part along up a b = long_cell_by design (along b) (up a) (part.column + a) (part.pick + b)

-- the first rows of the grid are bound, by the part's lines
abbrev pub AreBoundBy : Design → Part → ℕ → (ℕ → ℕ → Bool) → (ℕ → ℕ → Bool) → GridCells → Type 0
AreBoundBy design part count along up cells = (a b : ℕ) → a < part.width → b < count
    → grid_cell cells a b ≡ bound_by design (along b) (up a) (part.column + a) (part.pick + b)
