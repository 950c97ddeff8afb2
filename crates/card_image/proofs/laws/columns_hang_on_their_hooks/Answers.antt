use Rattle.card_image.proofs.Cut.{hangs_none, hangs_some}
use Rattle.card_image.proofs.laws.columns_hang_on_their_hooks.Goals as goal

pub returns-clause-none : goal.returns-clause-none
returns-clause-none c = hangs_none c.columns_and_hooks_match.ensures.none c.columns_and_hooks_match.ensures.hangs

pub returns-clause-some : goal.returns-clause-some
returns-clause-some c = hangs_some c.columns_and_hooks_match.ensures.none c.columns_and_hooks_match.ensures.hangs
