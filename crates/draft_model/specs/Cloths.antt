-- The cloth of a paper: what each warp end does at each pick.
-- Columns and ends are counted from the left and picks from the bottom, all from 0.
use Rattle.std.specs.Prelude.{◌≡◌, ◌<◌, ℕ, ℤ, pos, Bool, false, List, [], length, slice_index, slice_index_or}
use Rattle.mill_base.specs.Lines.{remainder, line_by}
use Rattle.weave_book.specs.declared.weaves.Weave.{Weave}
use Rattle.weave_book.specs.Books.{colour_mark}
use Rattle.point_paper.specs.Papers.{PaperCells, BitCells, cell_of, bit_cell}

-- the raw cell of a paper: the mark that the weave of its colour has there
abbrev pub raw_cell : List Weave → PaperCells → ℕ → ℕ → Bool
raw_cell book paper column pick = colour_mark book (cell_of paper column pick) column pick

-- the rows of so many picks, from the bottom, of so many cells each, from the left, by the formula of a cell
abbrev pub rows_by : {A : Type 0} → ℕ → ℕ → (ℕ → ℕ → A) → List (List A)
rows_by columns picks cell = line_by picks (λ pick. line_by columns (λ column. cell column pick))

-- the raw cells of a paper
abbrev pub raw : List Weave → PaperCells → BitCells
raw book paper = record { columns = paper.columns; rows = rows_by paper.columns paper.picks (raw_cell book paper) }

-- a cloth: for each pick, from the bottom, whether each end is lifted, from the left
pub record ClothCells : Type 0 where
  pub ends : ℕ
  pub rows : List (List Bool)

-- The cloth of a bit paper of P picks under a tie, the list of the columns of its E ends: the cell at end e and pick p is the paper's
-- in column tie (e mod E) of pick p mod P. The cloth goes on for ever in both ways, so e and p are any whole numbers, the negative
-- ones too, and the remainders are never negative.
abbrev pub cloth : List ℕ → BitCells → ℤ → ℤ → Bool
cloth tie bits e p = bit_cell bits (slice_index tie (remainder e (length tie))) (remainder p (length bits.rows))

-- one repeat of the cloth, from end 0 and pick 0 on
abbrev pub repeat : List ℕ → BitCells → ClothCells
repeat tie bits = record { ends = length tie; rows = rows_by (length tie) (length bits.rows) (λ e p. cloth tie bits (pos e) (pos p)) }

-- each row has a truth value for each end
abbrev pub IsCloth : ClothCells → Type 0
IsCloth cloth = (pick : ℕ) → pick < length cloth.rows → length (slice_index_or cloth.rows pick []) ≡ cloth.ends
