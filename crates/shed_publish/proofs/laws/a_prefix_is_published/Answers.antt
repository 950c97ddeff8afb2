use Rattle.shed_publish.proofs.lemmas.Published.{prefix_published}
use Rattle.shed_publish.proofs.laws.a_prefix_is_published.Goals as goal

pub returns : goal.returns
returns c = prefix_published
