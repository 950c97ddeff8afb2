-- The lines that cross a tile: its picks over all columns, and its columns over all picks.
use Rattle.std.specs.Prelude.{◌≡◌, ℕ, ◌+◌, ◌*◌, ◌<◌, ◌≤◌, List, length, slice_index}
use Rattle.mill_base.specs.Grids.{GridCells, grid_cell}
use Rattle.point_paper.specs.Papers.{PaperCells, BitCells, cell_of, bit_cell}
use Rattle.tile_rebuild.specs.declared.part.Part.{Part}

-- The lines are those of a paper of so many columns and picks with these cells: `along` has the columns of the part's b-th pick, and
-- `up` the picks of its a-th column.
pub record AreLines {A : Type 0} (columns picks : ℕ) (part : Part) (cell along up : ℕ → ℕ → A) : Type 0 where
  pub along_picks : (b x : ℕ) → b < part.height → x < columns → along b x ≡ cell x (part.pick + b)
  pub up_columns : (a y : ℕ) → a < part.width → y < picks → up a y ≡ cell (part.column + a) y

-- place k of the j-th of lines that lie one after another and have so many places
abbrev pub item_of : ℕ → List ℕ → ℕ → ℕ → ℕ
item_of len items j k = slice_index items (j * len + k)

-- the colours in the two lists are those of a paper's lines
abbrev pub AreColoursOf : Part → PaperCells → List ℕ → List ℕ → Type 0
AreColoursOf part paper along up = AreLines paper.columns paper.picks part (cell_of paper) (item_of paper.columns along) (item_of paper.picks up)

-- the truth values in the two grids are those of a bit paper's lines: row b of the first is the part's b-th pick, and row a of the
-- second its a-th column
abbrev pub AreBitsOf : Part → BitCells → GridCells → GridCells → Type 0
AreBitsOf part bits along up = AreLines bits.columns (length bits.rows) part (bit_cell bits) (λ b x. grid_cell along x b) (λ a y. grid_cell up y a)

-- there is room for the part's lines of a paper of so many columns and picks
pub record HaveColourRoom (columns picks : ℕ) (part : Part) (along up : List ℕ) : Type 0 where
  pub for_picks : part.height * columns ≤ length along
  pub for_columns : part.width * picks ≤ length up

pub record HaveBitRoom (columns picks : ℕ) (part : Part) (along up : GridCells) : Type 0 where
  pub along_wide : along.width ≡ columns
  pub along_high : part.height ≤ length along.rows
  pub up_wide : up.width ≡ picks
  pub up_high : part.width ≤ length up.rows

-- the lines of a tile, as colours and as truth values
pub record Colours : Type 0 where
  pub picks : List ℕ
  pub columns : List ℕ

pub record Bits : Type 0 where
  pub picks : GridCells
  pub columns : GridCells
