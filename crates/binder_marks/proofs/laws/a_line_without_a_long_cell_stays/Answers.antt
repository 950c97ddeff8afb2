use Rattle.binder_marks.proofs.Lines.{unbound}
use Rattle.binder_marks.proofs.laws.a_line_without_a_long_cell_stays.Goals as goal

pub returns : goal.returns
returns c = unbound
