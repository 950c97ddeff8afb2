use Rattle.session_rules.proofs.lemmas.Items.{items_listed}
use Rattle.session_rules.proofs.lists.items_in.Goals as goal

pub returns : goal.returns
returns c = items_listed _ _ _ c.in-Some.ensures c.as_slice.ensures.value
