use Rattle.std.proofs.Common.{length, get_or, ap, ◌∙◌, false, []}
use Rattle.mill_base.specs.Lines.{line_by}
use Rattle.mill_base.specs.Grids.{grid_cell}
use Rattle.mill_base.proofs.lemmas.Lines.{length-line_by, get_or-line_by}
use Rattle.mill_base.proofs.laws.a_transposed_grid_has_its_columns.Goals as goal

pub returns-clause-width : goal.returns-clause-width
returns-clause-width c grid j h =
    ap length (get_or-line_by grid.width (λ column. line_by (length grid.rows) (grid_cell grid column)) j [] h) ∙ length-line_by (length grid.rows) (grid_cell grid j)

pub returns-clause-height : goal.returns-clause-height
returns-clause-height c grid = length-line_by grid.width (λ column. line_by (length grid.rows) (grid_cell grid column))

pub returns-clause-cells : goal.returns-clause-cells
returns-clause-cells c grid column row h low =
    ap (λ line. get_or line row false) (get_or-line_by grid.width (λ column. line_by (length grid.rows) (grid_cell grid column)) column [] h)
    ∙ get_or-line_by (length grid.rows) (grid_cell grid column) row false low
