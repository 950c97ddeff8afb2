use Rattle.point_paper.proofs.lemmas.Cells.{same_papers}
use Rattle.point_paper.proofs.laws.a_paper_is_its_cells.Goals as goal

pub returns : goal.returns
returns c = same_papers
