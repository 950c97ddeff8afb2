use Rattle.shed_publish.proofs.lemmas.Published.{last_version_is, last_entry_is}
use Rattle.shed_publish.proofs.laws.the_last_entry_has_the_last_version.Goals as goal

pub returns-clause-version : goal.returns-clause-version
returns-clause-version c = last_version_is

pub returns-clause-entry : goal.returns-clause-entry
returns-clause-entry c = last_entry_is
