use Rattle.std.proofs.Common.{◌≡◌, ◌<◌, Bool, List, [], false, length, get_or, sym, ap, subst, ◌∙◌, arith}
use Rattle.mill_base.specs.Grids.{GridCells, grid_cell, grid_row}
use Rattle.mill_base.specs.Lines.{line_by}
use Rattle.mill_base.proofs.lemmas.Lines.{length-line_by, get_or-line_by}
use Rattle.cloth_floats.specs.Windows.{long_of}
use Rattle.tile_rebuild.proofs.lemmas.Rebuilt.{get_or-long_of}
use Rattle.tile_rebuild.proofs.whole_long.mark_columns.Goals as goal

pub returns-clause-ends : goal.returns-clause-ends
returns-clause-ends c = λ x p hx hp.
    let design = c.args.design.now in
    let raw = c.args.room.now.raw in
    let size = c.requires.room in
    let turned = c.transpose_into.new.out in
    let marked = c.mark_rows.new.grid in
    let cells = line_by design.size.picks (λ y. grid_cell raw x y) in
    let wide : x < raw.width = omega (arith, hx, size.raw_wide) in
    let line : grid_row turned x ≡ cells =
    ap (λ (g : GridCells). grid_row g x) c.transpose_into.ensures.columns
    ∙ get_or-line_by raw.width (λ column. line_by (length raw.rows) (grid_cell raw column)) x [] wide ∙ ap (λ n. line_by n (λ y. grid_cell raw x y)) size.raw_high in
    let broad : turned.width ≡ design.size.picks = ap (λ (g : GridCells). g.width) c.transpose_into.ensures.columns ∙ size.raw_high in
    let there : x < length turned.rows = omega (arith, wide, c.transpose_into.ensures.height) in
    let across : p < marked.width = omega (arith, hp, c.mark_rows.ensures.width, broad) in
    let up : x < length marked.rows = omega (arith, there, c.mark_rows.ensures.height) in
    ap (λ (g : GridCells). grid_cell g x p) c.transpose_into-2.ensures.columns
    ∙ c.a_transposed_grid_has_its_columns.ensures.cells marked p x across up
    ∙ ap (λ (xs : List Bool). get_or xs p false) (c.mark_rows.ensures.rows x there)
    ∙ ap (λ (xs : List Bool). get_or (long_of xs design.warp_face design.warp_back) p false) line
    ∙ get_or-long_of cells design.warp_face design.warp_back p (subst (λ n. p < n) (sym (length-line_by design.size.picks (λ y. grid_cell raw x y))) hp)
