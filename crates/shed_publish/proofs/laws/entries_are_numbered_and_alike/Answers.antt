use Rattle.shed_publish.proofs.lemmas.Published.{numbered, alike}
use Rattle.shed_publish.proofs.laws.entries_are_numbered_and_alike.Goals as goal

pub returns-clause-version : goal.returns-clause-version
returns-clause-version c = numbered

pub returns-clause-design : goal.returns-clause-design
returns-clause-design c = alike
