-- Papers of colours and papers of truth values, by their cells.
-- Columns are counted from the left and picks from the bottom, both from 0.
use Rattle.std.specs.Prelude.{◌≡◌, ℕ, zero, suc, ◌+◌, ◌-◌, ◌*◌, ◌<◌, ◌==◌, nat_le, nat_lt, Bool, false, ◌&&◌, List, [], ◌++◌, length, slice_index, slice_index_or, if◌then◌else◌}
use Rattle.mill_base.specs.Lines.{line_by}
use Rattle.point_paper.specs.declared.paper.LineKind.{LineKind}
use Rattle.point_paper.specs.declared.paper.LineKind.TheVariants.{Pick, Column}
use Rattle.point_paper.specs.declared.paper.Span.{Span}

-- a paper of colour numbers: pick by pick from the bottom, each pick from the left
pub record PaperCells : Type 0 where
  pub columns : ℕ
  pub picks : ℕ
  pub colours : List ℕ

-- the colour number of the cell in a column of a pick
abbrev pub cell_of : PaperCells → ℕ → ℕ → ℕ
cell_of paper column pick = slice_index paper.colours (pick * paper.columns + column)

-- each cell has a colour number, and there are no others
abbrev pub IsPaper : PaperCells → Type 0
IsPaper paper = length paper.colours ≡ paper.picks * paper.columns

-- two papers have one size, and the same colour number in each column of each pick
pub record HaveSameCells (one other : PaperCells) : Type 0 where
  pub columns : one.columns ≡ other.columns
  pub picks : one.picks ≡ other.picks
  pub cells : (column pick : ℕ) → column < one.columns → pick < one.picks
      → cell_of one column pick ≡ cell_of other column pick

-- the colour numbers of a whole pick, from column 0 on
abbrev pub pick_of : PaperCells → ℕ → List ℕ
pick_of paper pick = line_by paper.columns (λ column. cell_of paper column pick)

-- the colour numbers of a whole column, from pick 0 on
abbrev pub column_of : PaperCells → ℕ → List ℕ
column_of paper column = line_by paper.picks (λ pick. cell_of paper column pick)

-- how many lines of a kind a paper has, how many cells each of them has, and the colour numbers of the index-th of them
abbrev pub lines_of : LineKind → PaperCells → ℕ
lines_of Pick paper = paper.picks
lines_of Column paper = paper.columns

abbrev pub line_cells : LineKind → PaperCells → ℕ
line_cells Pick paper = paper.columns
line_cells Column paper = paper.picks

abbrev pub line_of : LineKind → PaperCells → ℕ → List ℕ
line_of Pick paper index = pick_of paper index
line_of Column paper index = column_of paper index

-- the colour numbers of so many picks, one pick after another, by the formula of the cell in a column of a pick
unfoldable pub colours_by : ℕ → ℕ → (ℕ → ℕ → ℕ) → List ℕ
colours_by columns zero cell = []
colours_by columns (suc picks) cell = colours_by columns picks cell ++ line_by columns (λ column. cell column picks)

-- the paper of so many columns and picks that has the formula's colour number in each column of each pick
abbrev pub paper_by : ℕ → ℕ → (ℕ → ℕ → ℕ) → PaperCells
paper_by columns picks cell = record { columns = columns; picks = picks; colours = colours_by columns picks cell }

-- an image of colour numbers as a paper: its top row is the highest pick, so that row r is pick P - 1 - r
abbrev pub image_cell : ℕ → ℕ → List ℕ → ℕ → ℕ → ℕ
image_cell columns picks pixels column pick = slice_index pixels ((picks - 1 - pick) * columns + column)

-- the span has the cell in a column of a pick
abbrev pub covers : Span → ℕ → ℕ → Bool
covers span column pick = pick == span.pick && nat_le span.column column && nat_lt column (span.column + span.length)

-- the colour number in a column of a pick once the span is painted: the span's where the span has the cell, else as
-- before
abbrev pub after_span : PaperCells → Span → ℕ → ℕ → ℕ
after_span paper span column pick = if covers span column pick then span.colour else cell_of paper column pick

-- a paper of truth values: a row for each pick, from the bottom
pub record BitCells : Type 0 where
  pub columns : ℕ
  pub rows : List (List Bool)

-- the truth values of a whole pick, from column 0 on
abbrev pub bit_row : BitCells → ℕ → List Bool
bit_row bits pick = slice_index_or bits.rows pick []

-- the truth value of the cell in a column of a pick
abbrev pub bit_cell : BitCells → ℕ → ℕ → Bool
bit_cell bits column pick = slice_index_or (bit_row bits pick) column false

-- each row has a truth value for each column
abbrev pub IsBitPaper : BitCells → Type 0
IsBitPaper bits = (pick : ℕ) → pick < length bits.rows → length (bit_row bits pick) ≡ bits.columns

-- two papers of truth values have one size, and the same truth value in each column of each pick
pub record HaveSameBits (one other : BitCells) : Type 0 where
  pub columns : one.columns ≡ other.columns
  pub picks : length one.rows ≡ length other.rows
  pub cells : (column pick : ℕ) → column < one.columns → pick < length one.rows
      → bit_cell one column pick ≡ bit_cell other column pick
