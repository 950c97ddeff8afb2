use Rattle.audit_model.proofs.Reached.{may_pass, pass_may}
use Rattle.audit_model.proofs.laws.a_piece_passes_exactly_where_it_may_come.Goals as goal

pub returns-clause-passes : goal.returns-clause-passes
returns-clause-passes c = may_pass

pub returns-clause-comes : goal.returns-clause-comes
returns-clause-comes c = pass_may
