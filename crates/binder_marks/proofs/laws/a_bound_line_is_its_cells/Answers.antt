use Rattle.std.proofs.Common.{false}
use Rattle.binder_marks.proofs.Lines.{length-bound_line, get_or-bound_line}
use Rattle.binder_marks.proofs.laws.a_bound_line_is_its_cells.Goals as goal

pub returns : goal.returns
returns c = record { length = length-bound_line; cells = λ raw long raise sink k h. get_or-bound_line raw long raise sink k false h }
