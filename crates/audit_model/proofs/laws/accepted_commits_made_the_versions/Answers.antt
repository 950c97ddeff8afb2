use Rattle.audit_model.proofs.Keeping.{last_counted, versions_counted}
use Rattle.audit_model.proofs.laws.accepted_commits_made_the_versions.Goals as goal

pub returns-clause-shifts : goal.returns-clause-shifts
returns-clause-shifts c = versions_counted

pub returns-clause-all : goal.returns-clause-all
returns-clause-all c = last_counted
