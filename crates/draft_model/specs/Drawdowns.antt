-- The bound paper and the drawdown of a paper under a design.
use Rattle.std.specs.Prelude.{ℕ, pos, ◌==◌, Bool, ◌&&◌, length, slice_index}
use Rattle.mill_base.specs.Below.{any_below}
use Rattle.weave_book.specs.Weaves.{mark}
use Rattle.binder_marks.specs.Bound.{bound_cell}
use Rattle.point_paper.specs.Papers.{PaperCells, BitCells, bit_cell}
use Rattle.draft_model.specs.Cloths.{ClothCells, raw, repeat, rows_by}
use Rattle.draft_model.specs.Floats.{long}
use Rattle.draft_model.specs.declared.design.Design.{Design}

-- some end of the column is long at the pick
unfoldable pub column_long : Design → BitCells → ℕ → ℕ → Bool
column_long design bits column pick = any_below (λ e. slice_index design.tie.ends e == column && long design bits (pos e) (pos pick)) (length design.tie.ends)

-- the cell in a column of a pick once the binder has been over a paper of such raw cells
abbrev pub cell_bound : Design → BitCells → ℕ → ℕ → Bool
cell_bound design raw column pick =
    bound_cell (bit_cell raw column pick) (column_long design raw column pick) (mark design.raise column pick) (mark design.sink column pick)

-- The bound paper: each cell is found from the raw cloth alone, in one pass. A float that the binder itself makes stays.
unfoldable pub bound : Design → PaperCells → BitCells
bound design paper = record { columns = paper.columns; rows = rows_by paper.columns paper.picks (cell_bound design (raw design.book paper)) }

-- the cells of one repeat of the cloth of the bound paper: as many ends as the tie has, and the paper's picks
abbrev pub drawdown : Design → PaperCells → ClothCells
drawdown design paper = repeat design.tie.ends (bound design paper)
