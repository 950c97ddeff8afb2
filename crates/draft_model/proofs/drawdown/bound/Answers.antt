use Rattle.std.proofs.Common.{◌≡◌, ℕ, List, Bool, length, ap, ◌∙◌, sym, refl}
use Rattle.std.specs.Prelude.{Result, Ok, Err, IfOk}
use Rattle.mill_base.specs.Grids.{GridCells}
use Rattle.mill_base.specs.Lines.{line_by}
use Rattle.mill_base.proofs.lemmas.Lines.{length-line_by}
use Rattle.point_paper.specs.Papers.{BitCells, PaperCells}
use Rattle.draft_model.specs.Cloths.{raw, raw_cell, rows_by}
use Rattle.draft_model.specs.Designs.{IsBitsOf, IsPaperOf}
use Rattle.draft_model.specs.Drawdowns.{bound, cell_bound}
use Rattle.draft_model.specs.Inner.{bits_of, IsGridOf}
use Rattle.draft_model.specs.declared.design.Design.{Design}
use Rattle.draft_model.proofs.drawdown.bound.Goals as goal

is_grid : (design : Design) (paper : PaperCells) (grid : GridCells) → IsPaperOf design paper → bits_of grid ≡ raw design.book paper → IsGridOf design grid
is_grid design paper grid of is = record {
  columns = ap (λ (b : BitCells). b.columns) is ∙ of.columns;
  picks = ap (λ (b : BitCells). length b.rows) is ∙ length-line_by paper.picks (λ p. line_by paper.columns (λ k. raw_cell design.book paper k p)) ∙ of.picks;
}

pub long_columns-requires-clause-raw : goal.long_columns-requires-clause-raw
long_columns-requires-clause-raw c = is_grid c.args.design.now c.args.paper.now c.in_ok-raw.raw c.requires.paper c.in_ok-raw.ensures

pub bind_rows-requires-clause-raw : goal.bind_rows-requires-clause-raw
bind_rows-requires-clause-raw c = is_grid c.args.design.now c.args.paper.now c.in_ok-raw.raw c.requires.paper c.in_ok-raw.ensures

-- what was bound is the bound paper, since the grid has the raw cells
bound_is : (design : Design) (paper : PaperCells) (grid : GridCells) (bits : BitCells) → IsPaperOf design paper → bits_of grid ≡ raw design.book paper
    → bits ≡ record { columns = design.size.columns; rows = rows_by design.size.columns design.size.picks (cell_bound design (bits_of grid)) } → bits ≡ bound design paper
unfolding bound
bound_is design paper grid bits of is are =
    are
    ∙ ap (λ (b : BitCells). record { columns = design.size.columns; rows = rows_by design.size.columns design.size.picks (cell_bound design b) }) is
    ∙ ap (λ n. record { columns = n; rows = rows_by n design.size.picks (cell_bound design (raw design.book paper)) }) (sym of.columns)
    ∙ ap (λ n. record { columns = paper.columns; rows = rows_by paper.columns n (cell_bound design (raw design.book paper)) }) (sym of.picks)

if_bound : {E : Type 0} (design : Design) (paper : PaperCells) (grid : GridCells) (result : Result BitCells E) → IsPaperOf design paper → bits_of grid ≡ raw design.book paper
    → IfOk result (λ bits. bits ≡ record { columns = design.size.columns; rows = rows_by design.size.columns design.size.picks (cell_bound design (bits_of grid)) })
    → IfOk result (λ bits. bits ≡ bound design paper)
if_bound design paper grid (Ok bits) of is are = bound_is design paper grid bits of is are
if_bound design paper grid (Err e) of is are = are

pub returns-clause-bits : goal.returns-clause-bits
returns-clause-bits c = if_bound c.args.design.now c.args.paper.now c.in_ok-raw.raw c.bind_rows.result c.requires.paper c.in_ok-raw.ensures c.bind_rows.ensures

-- bits of the design's size
sized : {E : Type 0} (design : Design) (cell : ℕ → ℕ → Bool) (result : Result BitCells E)
    → IfOk result (λ bits. bits ≡ record { columns = design.size.columns; rows = rows_by design.size.columns design.size.picks cell }) → IfOk result (λ bits. IsBitsOf design bits)
sized design cell (Ok bits) is = record {
  columns = ap (λ (b : BitCells). b.columns) is;
  picks = ap (λ (b : BitCells). length b.rows) is ∙ length-line_by design.size.picks (λ p. line_by design.size.columns (λ k. cell k p));
}
sized design cell (Err e) is = is

pub returns-clause-size : goal.returns-clause-size
returns-clause-size c = sized c.args.design.now (cell_bound c.args.design.now (bits_of c.in_ok-raw.raw)) c.bind_rows.result c.bind_rows.ensures
