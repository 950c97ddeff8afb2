use Rattle.shed_publish.proofs.lemmas.Published.{next_published}
use Rattle.shed_publish.proofs.laws.the_next_entry_goes_on.Goals as goal

pub returns-clause-next : goal.returns-clause-next
returns-clause-next c = next_published
