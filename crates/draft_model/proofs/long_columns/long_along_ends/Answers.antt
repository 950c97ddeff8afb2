use Rattle.std.proofs.Common.{◌≡◌, ◌<◌, ℕ, length, map, ap, sym, subst, ◌∙◌}
use Rattle.std.proofs.lemmas.List.{length-map}
use Rattle.mill_base.specs.Grids.{GridCells, grid_cell, transposed}
use Rattle.mill_base.specs.Lines.{line_by}
use Rattle.mill_base.proofs.lemmas.Lines.{length-line_by}
use Rattle.cloth_floats.specs.Windows.{long_of}
use Rattle.draft_model.proofs.LongGrids.{none_is_long, turned_back}
use Rattle.draft_model.proofs.long_columns.long_along_ends.Goals as goal

-- the grid that was marked, by the raw one
marked : (raw turned done : GridCells) (columns picks lifted unlifted : ℕ) → raw.width ≡ columns → length raw.rows ≡ picks → turned ≡ transposed raw
    → done ≡ record { width = turned.width; rows = map (λ row. long_of row lifted unlifted) turned.rows }
    → done ≡ record { width = picks; rows = map (λ row. long_of row lifted unlifted) (line_by columns (λ column. line_by picks (grid_cell raw column))) }
marked raw turned done columns picks lifted unlifted wide high is was =
    was ∙ ap (λ (g : GridCells). record { width = g.width; rows = map (λ row. long_of row lifted unlifted) g.rows }) is
    ∙ ap (λ (n : ℕ). record { width = n; rows = map (λ row. long_of row lifted unlifted) (line_by raw.width (λ column. line_by n (grid_cell raw column))) }) high
    ∙ ap (λ (n : ℕ). record { width = picks; rows = map (λ row. long_of row lifted unlifted) (line_by n (λ column. line_by picks (grid_cell raw column))) }) wide

pub transpose_into-requires-2-clause-width : goal.transpose_into-requires-2-clause-width
transpose_into-requires-2-clause-width c =
    let raw = c.args.raw.now in
    let columns = c.args.design.now.size.columns in
    let picks = c.args.design.now.size.picks in
    let rows = line_by columns (λ column. line_by picks (grid_cell raw column)) in
    ap (λ (g : GridCells). g.width) c.in_ok-long.ensures
    ∙ sym (ap (λ (g : GridCells). length g.rows)
    (marked raw c.transpose_into.new.out c.mark_long_rows.new.grid columns picks c.args.design.now.warp_face c.args.design.now.warp_back c.requires.raw.columns c.requires.raw.picks c.transpose_into.ensures.columns c.mark_long_rows.ensures.rows)
    ∙ length-map rows (λ row. long_of row c.args.design.now.warp_face c.args.design.now.warp_back) ∙ length-line_by columns (λ column. line_by picks (grid_cell raw column)))

pub returns-then-not-mark_long_rows : goal.returns-then-not-mark_long_rows
returns-then-not-mark_long_rows c =
    let raw = c.args.raw.now in
    let columns = c.args.design.now.size.columns in
    let picks = c.args.design.now.size.picks in
    c.in_ok-long.ensures
    ∙ none_is_long (grid_cell raw) columns picks c.args.design.now.warp_face c.args.design.now.warp_back c.mark_long_rows.new.grid
    (marked raw c.transpose_into.new.out c.mark_long_rows.new.grid columns picks c.args.design.now.warp_face c.args.design.now.warp_back c.requires.raw.columns c.requires.raw.picks c.transpose_into.ensures.columns c.mark_long_rows.ensures.rows)
    (λ column pick h. c.mark_long_rows.ensures.none c.if-not-mark_long_rows.true column pick (subst (λ n. column < n) (sym (c.transpose_into.ensures.height ∙ c.requires.raw.columns)) h))

pub returns : goal.returns
returns c =
    let raw = c.args.raw.now in
    let columns = c.args.design.now.size.columns in
    let picks = c.args.design.now.size.picks in
    c.transpose_into-2.ensures.columns
    ∙ ap transposed (marked raw c.transpose_into.new.out c.mark_long_rows.new.grid columns picks c.args.design.now.warp_face c.args.design.now.warp_back c.requires.raw.columns c.requires.raw.picks c.transpose_into.ensures.columns c.mark_long_rows.ensures.rows)
    ∙ turned_back (grid_cell raw) columns picks c.args.design.now.warp_face c.args.design.now.warp_back
