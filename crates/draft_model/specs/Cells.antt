-- A cell of the cloth by the two lines that cross in it, which are told as the functions from columns, or picks, to cells. So whoever
-- holds a pick and a column of a paper has all that decides the cell.
use Rattle.std.specs.Prelude.{◌≡◌, ℕ, ◌<◌, ◌==◌, max, Bool, ◌&&◌, ◌||◌, length, slice_index}
use Rattle.mill_base.specs.Below.{any_below}
use Rattle.mill_base.specs.Lines.{line_by}
use Rattle.weave_book.specs.Weaves.{mark}
use Rattle.binder_marks.specs.Bound.{bound_cell}
use Rattle.cloth_floats.specs.Windows.{is_long, IsNear}
use Rattle.draft_model.specs.declared.design.Design.{Design}

-- end e is tied to the column, and its cell on the cloth of the pick with these cells is long
abbrev pub is_weft_long : Design → (ℕ → Bool) → ℕ → ℕ → Bool
is_weft_long design row column e =
    slice_index design.tie.ends e == column && is_long (line_by (length design.tie.ends) (λ x. row (slice_index design.tie.ends x))) design.weft_back design.weft_face e

-- some end of a column is long at a pick, in a paper with this pick (`row`) and this column (`cells`)
unfoldable pub long_cell_by : Design → (ℕ → Bool) → (ℕ → Bool) → ℕ → ℕ → Bool
long_cell_by design row cells column pick =
    any_below (is_weft_long design row column) (length design.tie.ends)
    || is_long (line_by design.size.picks cells) design.warp_face design.warp_back pick

-- the bound cell of a column at a pick, in a raw paper with this pick and this column
abbrev pub bound_by : Design → (ℕ → Bool) → (ℕ → Bool) → ℕ → ℕ → Bool
bound_by design row cells column pick =
    bound_cell (row column) (long_cell_by design row cells column pick) (mark design.raise column pick) (mark design.sink column pick)

-- two picks agree at the columns of all ends that lie within the weft limits of an end of the column, and two columns agree at all picks
-- that lie within the warp limits of the pick, both round the repeat
pub record AgreeAround (design : Design) (row other_row cells other_cells : ℕ → Bool) (column pick : ℕ) : Type 0 where
  pub along_pick : (e x : ℕ) → e < length design.tie.ends → slice_index design.tie.ends e ≡ column → x < length design.tie.ends
      → IsNear (length design.tie.ends) (max design.weft_back design.weft_face) e x
      → row (slice_index design.tie.ends x) ≡ other_row (slice_index design.tie.ends x)
  pub along_end : (y : ℕ) → y < design.size.picks → IsNear design.size.picks (max design.warp_face design.warp_back) pick y → cells y ≡ other_cells y
