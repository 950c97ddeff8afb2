use Rattle.audit_model.proofs.Reached.{read_line, read_move}
use Rattle.audit_model.proofs.Starting.{read_start}
use Rattle.audit_model.proofs.laws.lines_lead_on.Goals as goal

pub returns-clause-start : goal.returns-clause-start
returns-clause-start c = read_start

pub returns-clause-line : goal.returns-clause-line
returns-clause-line c = read_line

pub returns-clause-moved : goal.returns-clause-moved
returns-clause-moved c = read_move
