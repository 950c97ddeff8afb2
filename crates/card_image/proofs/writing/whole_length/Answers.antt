use Rattle.card_image.proofs.Cards.{place_is}
use Rattle.card_image.proofs.writing.whole_length.Goals as goal

pub returns-clause-length : goal.returns-clause-length
returns-clause-length c = place_is c.args.hooks c.args.picks
