use Rattle.point_paper.proofs.lemmas.Cells.{IsPaper-paper_by, cell_of-paper_by}
use Rattle.point_paper.proofs.laws.the_paper_of_a_formula_has_its_cells.Goals as goal

pub returns : goal.returns
returns c = record { whole = IsPaper-paper_by; cells = cell_of-paper_by }
