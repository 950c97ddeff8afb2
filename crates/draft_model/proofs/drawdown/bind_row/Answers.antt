use Rattle.std.proofs.Common.{◌≡◌, ◌<◌, ℕ, List, [], Bool, false, length, get_or, ap, ◌∙◌, sym, subst}
use Rattle.mill_base.specs.Grids.{GridCells, grid_row}
use Rattle.mill_base.specs.Lines.{line_by}
use Rattle.mill_base.proofs.lemmas.Lines.{length-line_by, get_or-line_by, line_is}
use Rattle.weave_book.specs.Weaves.{mark}
use Rattle.binder_marks.specs.Bound.{bound_line, bound_at, bound_cell}
use Rattle.draft_model.specs.Drawdowns.{cell_bound, column_long}
use Rattle.draft_model.specs.Inner.{bits_of}
use Rattle.draft_model.specs.declared.design.Design.{Design}
use Rattle.draft_model.proofs.drawdown.bind_row.Goals as goal

-- a bound row, from the rows that it is made of
row_bound : (design : Design) (raw : GridCells) (columns pick : ℕ) (line long raise sink new : List Bool) → length line ≡ columns → line ≡ grid_row raw pick
    → long ≡ line_by columns (λ column. column_long design (bits_of raw) column pick) → raise ≡ line_by columns (λ column. mark design.raise column pick)
    → sink ≡ line_by columns (λ column. mark design.sink column pick) → length new ≡ columns
    → ((k : ℕ) → k < length line → get_or new k false ≡ bound_at line long raise sink k)
    → new ≡ line_by columns (λ column. cell_bound design (bits_of raw) column pick)
row_bound design raw columns pick line long raise sink new wide is long_is raise_is sink_is new_wide each =
    line_is false new columns (λ column. cell_bound design (bits_of raw) column pick) new_wide
    (λ k h. each k (subst (λ n. k < n) (sym wide) h)
    ∙ ap (λ xs. bound_cell (get_or xs k false) (get_or long k false) (get_or raise k false) (get_or sink k false)) is
    ∙ ap (λ b. bound_cell (get_or (grid_row raw pick) k false) b (get_or raise k false) (get_or sink k false))
    (ap (λ xs. get_or xs k false) long_is ∙ get_or-line_by columns (λ column. column_long design (bits_of raw) column pick) k false h)
    ∙ ap (λ b. bound_cell (get_or (grid_row raw pick) k false) (column_long design (bits_of raw) k pick) b (get_or sink k false))
    (ap (λ xs. get_or xs k false) raise_is ∙ get_or-line_by columns (λ column. mark design.raise column pick) k false h)
    ∙ ap (λ b. bound_cell (get_or (grid_row raw pick) k false) (column_long design (bits_of raw) k pick) (mark design.raise k pick) b)
    (ap (λ xs. get_or xs k false) sink_is ∙ get_or-line_by columns (λ column. mark design.sink column pick) k false h))

-- where no column is long, a bound row is the raw one
row_unbound : (design : Design) (raw : GridCells) (columns pick : ℕ) (line long new : List Bool) → length line ≡ columns → line ≡ grid_row raw pick
    → long ≡ line_by columns (λ column. column_long design (bits_of raw) column pick) → ((k : ℕ) → get_or long k false ≡ false) → new ≡ line
    → new ≡ line_by columns (λ column. cell_bound design (bits_of raw) column pick)
row_unbound design raw columns pick line long new wide is long_is none same =
    line_is false new columns (λ column. cell_bound design (bits_of raw) column pick) (ap length same ∙ wide)
    (λ k h. ap (λ xs. get_or xs k false) (same ∙ is)
    ∙ ap (λ b. bound_cell (get_or (grid_row raw pick) k false) b (mark design.raise k pick) (mark design.sink k pick))
    (sym (none k) ∙ ap (λ xs. get_or xs k false) long_is ∙ get_or-line_by columns (λ column. column_long design (bits_of raw) column pick) k false h))

line_long : (raw long raise sink out : List Bool) → out ≡ bound_line raw long raise sink → length out ≡ length raw
unfolding bound_line line_by
line_long raw long raise sink out is = ap length is ∙ length-line_by (length raw) (bound_at raw long raise sink)

-- the long columns of a pick
long_row : (design : Design) (raw long : GridCells) (columns picks pick : ℕ) (row : List Bool)
    → long ≡ record { width = columns; rows = line_by picks (λ p. line_by columns (λ column. column_long design (bits_of raw) column p)) } → pick < picks → row ≡ grid_row long pick
    → row ≡ line_by columns (λ column. column_long design (bits_of raw) column pick)
long_row design raw long columns picks pick row is there same =
    same ∙ ap (λ (g : GridCells). grid_row g pick) is
    ∙ get_or-line_by picks (λ p. line_by columns (λ column. column_long design (bits_of raw) column p)) pick [] there

pub row-requires : goal.row-requires
row-requires c =
    let design = c.args.design.now in
    subst (λ n. c.args.pick < n)
    (sym (ap (λ (g : GridCells). length g.rows) c.requires.long ∙ length-line_by design.size.picks (λ p. line_by design.size.columns (λ column. column_long design (bits_of c.args.raw.now) column p))))
    c.requires.pick

pub returns-then-not-any-clause-row : goal.returns-then-not-any-clause-row
returns-then-not-any-clause-row c =
    let design = c.args.design.now in
    let raw = c.args.raw.now in
    row_unbound design raw design.size.columns c.args.pick c.row-then-not-any.result.now c.row.result.now c.copy_from.new.self
    (c.row-then-not-any.ensures.width ∙ c.requires.raw.columns) c.row-then-not-any.ensures.row
    (long_row design raw c.args.long.now design.size.columns design.size.picks c.args.pick c.row.result.now c.requires.long c.requires.pick c.row.ensures.row)
    (c.any.ensures.none c.if-not-any.true) c.copy_from.ensures

pub returns-clause-row : goal.returns-clause-row
returns-clause-row c =
    let design = c.args.design.now in
    let raw = c.args.raw.now in
    let pick = c.args.pick in
    let wide = c.row-2.ensures.width ∙ c.requires.raw.columns in
    row_bound design raw design.size.columns pick c.row-2.result.now c.row-3.result.now c.put_row.new.out c.put_row-2.new.out c.bind_line.new.out wide c.row-2.ensures.row
    (long_row design raw c.args.long.now design.size.columns design.size.picks pick c.row-3.result.now c.requires.long c.requires.pick c.row-3.ensures.row)
    (c.put_row.ensures.marks ∙ ap (λ n. line_by n (λ column. mark design.raise column pick)) c.requires.raise)
    (c.put_row-2.ensures.marks ∙ ap (λ n. line_by n (λ column. mark design.sink column pick)) c.requires.sink)
    (line_long c.row-2.result.now c.row-3.result.now c.put_row.new.out c.put_row-2.new.out c.bind_line.new.out c.bind_line.ensures.line ∙ wide)
    c.bind_line.ensures.cells
