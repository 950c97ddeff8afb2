use Rattle.card_image.proofs.Whole.{own_hook}
use Rattle.card_image.proofs.laws.columns_of_a_full_machine_have_their_own_hooks.Goals as goal

pub returns : goal.returns
returns c = own_hook
