use Rattle.audit_model.proofs.Reached.{line_comes}
use Rattle.audit_model.proofs.laws.a_line_begins_no_other.Goals as goal

pub returns : goal.returns
returns c = line_comes
