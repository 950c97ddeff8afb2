-- Motifs by their cells. Columns are counted from the left and picks from the bottom, both from 0.
use Rattle.std.specs.Prelude.{◌≡◌, ℕ, ◌+◌, ◌*◌, ◌<◌, ◌≤◌, nat_lt, ◌&&◌, List, [], All, length, slice_index_or, Option, None, IfSome, if◌then◌else◌}
use Rattle.mill_base.specs.declared.size.Size.{Size}

-- a motif: pick by pick from the lowest, each pick from the left; a cell has a colour number, or nothing where it is
-- not painted
pub record MotifCells : Type 0 where
  pub columns : ℕ
  pub picks : ℕ
  pub cells : List (Option ℕ)

-- each cell is there, and there are no others
abbrev pub IsMotif : MotifCells → Type 0
IsMotif motif = length motif.cells ≡ motif.picks * motif.columns

-- the cell in a column of a pick; there is nothing outside the motif
unfoldable pub motif_cell : MotifCells → ℕ → ℕ → Option ℕ
motif_cell motif column pick =
    if nat_lt column motif.columns && nat_lt pick motif.picks then slice_index_or motif.cells (pick * motif.columns + column) None else None

-- the motif has no more columns and no more picks than the paper
pub record IsNoLarger (motif : MotifCells) (size : Size) : Type 0 where
  pub columns : motif.columns ≤ size.columns
  pub picks : motif.picks ≤ size.picks

-- the motif without a cell
abbrev pub no_motif : MotifCells
no_motif = record { columns = 0; picks = 0; cells = [] }

-- each cell that is painted has one of so many colours
abbrev pub HasColours : ℕ → MotifCells → Type 0
HasColours colours motif = All (λ cell. IfSome cell (λ colour. colour < colours)) motif.cells
