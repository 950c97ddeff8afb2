use Rattle.std.proofs.Common.{◌≡◌, ◌<◌, sym, subst}
use Rattle.point_paper.specs.Papers.{PaperCells, cell_of}
use Rattle.point_paper.proofs.lemmas.Cells.{cell_of-paper_by}
use Rattle.float_rows.proofs.lines.blank_paper.Goals as goal

pub returns-clause-colours : goal.returns-clause-colours
returns-clause-colours c column pick across up =
    subst (λ (p : PaperCells). cell_of p column pick ≡ 0) (sym c.in_ok-blank.ensures)
    (cell_of-paper_by c.args.size.columns c.args.size.picks (λ column pick. 0) column pick
    (subst (λ (p : PaperCells). column < p.columns) c.in_ok-blank.ensures across)
    (subst (λ (p : PaperCells). pick < p.picks) c.in_ok-blank.ensures up))
