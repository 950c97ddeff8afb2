-- The lines of a cloth as they are followed.
use Rattle.std.proofs.Common.{◌≡◌, ◌<◌, ℕ, List, Bool, [], length, slice_index, ap, ◌∙◌}
use Rattle.mill_base.specs.Grids.{GridCells, grid_row, grid_cell, transposed}
use Rattle.mill_base.specs.Lines.{line_by}
use Rattle.mill_base.proofs.lemmas.Lines.{length-line_by, get_or-line_by}
use Rattle.harness_ties.specs.Ties.{tied}
use Rattle.point_paper.specs.Papers.{BitCells, bit_row, bit_cell}
use Rattle.draft_model.specs.declared.design.Design.{Design}
use Rattle.draft_model.specs.declared.float_run.FloatKind.TheVariants.{Weft, Warp}
use Rattle.draft_model.specs.Inner.{grid_cells}
use Rattle.float_list.specs.declared.long_float.Limits.{Limits}
use Rattle.float_list.specs.Floats.{limits_of, line_of, over_limit}

-- a pick that was laid onto the ends
pub weft_piece : (design : Design) (bits : BitCells) (pick : ℕ) (limits : Limits) (row cells : List Bool) → limits ≡ limits_of Weft design → row ≡ bit_row bits pick
    → cells ≡ tied design.tie.ends row → over_limit limits pick cells ≡ over_limit (limits_of Weft design) pick (line_of Weft design bits pick)
weft_piece design bits pick limits row cells by is laid =
    ap (λ (l : Limits). over_limit l pick cells) by
    ∙ ap (over_limit (limits_of Weft design) pick) (laid ∙ ap (λ xs. tied design.tie.ends xs) is)

-- the turned paper has a row for each column
pub columns_high : (bits : BitCells) (turned : GridCells) → turned ≡ transposed (grid_cells bits) → length turned.rows ≡ bits.columns
columns_high bits turned is =
    ap (λ (g : GridCells). length g.rows) is ∙ length-line_by bits.columns (λ column. line_by (length bits.rows) (grid_cell (grid_cells bits) column))

pub column_row : (bits : BitCells) (turned : GridCells) (k : ℕ) → turned ≡ transposed (grid_cells bits) → k < bits.columns
    → grid_row turned k ≡ line_by (length bits.rows) (λ p. bit_cell bits k p)
column_row bits turned k is below =
    ap (λ (g : GridCells). grid_row g k) is
    ∙ get_or-line_by bits.columns (λ column. line_by (length bits.rows) (grid_cell (grid_cells bits) column)) k [] below

pub warp_piece : (design : Design) (bits : BitCells) (end column : ℕ) (limits : Limits) (turned : GridCells) (cells : List Bool) → limits ≡ limits_of Warp design
    → turned ≡ transposed (grid_cells bits) → cells ≡ grid_row turned column → column ≡ slice_index design.tie.ends end → column < bits.columns
    → over_limit limits end cells ≡ over_limit (limits_of Warp design) end (line_of Warp design bits end)
warp_piece design bits end column limits turned cells by is at tied there =
    ap (λ (l : Limits). over_limit l end cells) by
    ∙ ap (over_limit (limits_of Warp design) end)
    (at ∙ column_row bits turned column is there ∙ ap (λ k. line_by (length bits.rows) (λ p. bit_cell bits k p)) tied)
