use Rattle.point_paper.specs.Papers.{cell_of}
use Rattle.mill_base.proofs.lemmas.Lines.{length-line_by, get_or-line_by}
use Rattle.point_paper.proofs.laws.a_line_is_its_cells.Goals as goal

pub returns : goal.returns
returns c = record {
  picks = λ paper column pick h. get_or-line_by paper.columns (λ k. cell_of paper k pick) column 0 h;
  columns = λ paper column pick h. get_or-line_by paper.picks (λ k. cell_of paper column k) pick 0 h;
  lengths = λ paper k. (length-line_by paper.columns (λ column. cell_of paper column k), length-line_by paper.picks (λ pick. cell_of paper k pick));
}
