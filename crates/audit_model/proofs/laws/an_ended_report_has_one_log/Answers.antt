use Rattle.audit_model.proofs.Reached.{is_whole, read_whole}
use Rattle.audit_model.proofs.laws.an_ended_report_has_one_log.Goals as goal

pub returns-clause-yes : goal.returns-clause-yes
returns-clause-yes c = read_whole

pub returns-clause-only : goal.returns-clause-only
returns-clause-only c session bytes state coming log reached is = is_whole session bytes state coming log reached is.0 is.1
