use Rattle.std.proofs.Common.{◌≡◌, ◌<◌, length, sym, ap, ◌∙◌, arith}
use Rattle.mill_base.specs.Grids.{GridCells, grid_cell}
use Rattle.tile_rebuild.proofs.lemmas.Passes.{row_long}
use Rattle.tile_rebuild.proofs.whole_long.mark_some_columns.Goals as goal

pub returns-then-have_any-clause-ends : goal.returns-then-have_any-clause-ends
returns-then-have_any-clause-ends c = λ x p hx hp on.
    let design = c.args.design.now in
    let size = c.requires.room in
    let turned = c.transpose_into.new.out in
    let marked = c.mark_some_rows.new.grid in
    let broad : turned.width ≡ design.size.picks = ap (λ (g : GridCells). g.width) c.transpose_into.ensures.columns ∙ size.raw_high in
    let across : p < marked.width = omega (arith, hp, c.mark_some_rows.ensures.width, broad) in
    let up : x < length marked.rows = omega (arith, hx, size.raw_wide, c.transpose_into.ensures.height, c.mark_some_rows.ensures.height) in
    ap (λ (g : GridCells). grid_cell g x p) c.transpose_into-then-have_any.ensures.columns
    ∙ c.a_transposed_grid_has_its_columns.ensures.cells marked p x across up
    ∙ row_long design c.args.room.now.raw turned marked x p size.raw_wide size.raw_high c.transpose_into.ensures.columns (c.mark_some_rows.ensures.rows x on) hx hp

pub returns-clause-ends : goal.returns-clause-ends
returns-clause-ends c = λ x p hx hp on.
    let size = c.requires.room in
    c.clear_rows.ensures.cells x p ∙ sym (c.have_any.ensures c.if-have_any.false x on p)
    ∙ row_long c.args.design.now c.args.room.now.raw c.transpose_into.new.out c.mark_some_rows.new.grid x p size.raw_wide size.raw_high c.transpose_into.ensures.columns (c.mark_some_rows.ensures.rows x on) hx hp
