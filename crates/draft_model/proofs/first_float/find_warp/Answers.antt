use Rattle.std.proofs.Common.{◌≡◌, ◌<◌, ℕ, [], length, get_or, ap, sym, subst, ◌∙◌, arith}
use Rattle.mill_base.specs.Grids.{GridCells, grid_row, grid_cell, transposed}
use Rattle.mill_base.specs.Lines.{line_by}
use Rattle.mill_base.proofs.lemmas.Lines.{length-line_by, get_or-line_by}
use Rattle.cloth_floats.specs.Floats.{first_long_of}
use Rattle.point_paper.specs.Papers.{BitCells, bit_cell}
use Rattle.draft_model.specs.Inner.{grid_cells}
use Rattle.draft_model.proofs.FirstFloats.{none_to, warp_none}
use Rattle.draft_model.proofs.first_float.find_warp.Goals as goal

-- the turned paper has a row for each column
columns_high : (bits : BitCells) (turned : GridCells) → turned ≡ transposed (grid_cells bits) → length turned.rows ≡ bits.columns
columns_high bits turned is =
    ap (λ (g : GridCells). length g.rows) is ∙ length-line_by bits.columns (λ column. line_by (length bits.rows) (grid_cell (grid_cells bits) column))

column_row : (bits : BitCells) (turned : GridCells) (k : ℕ) → turned ≡ transposed (grid_cells bits) → k < bits.columns
    → grid_row turned k ≡ line_by (length bits.rows) (λ p. bit_cell bits k p)
column_row bits turned k is below =
    ap (λ (g : GridCells). grid_row g k) is
    ∙ get_or-line_by bits.columns (λ column. line_by (length bits.rows) (grid_cell (grid_cells bits) column)) k [] below

pub loop-column-preserved : goal.loop-column-preserved
loop-column-preserved c =
    let design = c.args.design.now in
    let bits = c.args.bits.now in
    let turned = c.in_ok-turned.turned in
    let column = c.loop-column.column in
    let there : column < bits.columns = subst (λ n. column < n) (c.height-column-end.ensures ∙ columns_high bits turned c.in_ok-turned.ensures) c.loop-column-test.true in
    record {
      none = none_to (λ k. first_long_of (line_by (length bits.rows) (λ p. bit_cell bits k p)) design.warp_face design.warp_back) column c.loop-column.invariant.none
          (sym (ap (λ xs. first_long_of xs design.warp_face design.warp_back) (c.row-line.ensures.row ∙ column_row bits turned column c.in_ok-turned.ensures there))
          ∙ c.is_long_somewhere.ensures.none c.if-is_long_somewhere.false);
      long = c.is_long_somewhere.ensures.len ∙ c.row-line.ensures.width ∙ ap (λ (g : GridCells). g.width) c.in_ok-turned.ensures;
    }

pub returns : goal.returns
returns c =
    let design = c.args.design.now in
    let bits = c.args.bits.now in
    let high = c.height-column-end.ensures ∙ columns_high bits c.in_ok-turned.turned c.in_ok-turned.ensures in
    sym (warp_none design bits (λ column h. c.loop-column.invariant.none column (omega (arith, c.loop-column-test.false, high, h)))
    (λ k d h. subst (λ n. get_or design.tie.ends k d < n) (sym c.requires.bits.columns) (c.requires.fits.tied k d h)))
