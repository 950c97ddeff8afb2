use Rattle.card_image.proofs.Cards.{cards_there}
use Rattle.card_image.proofs.so_far.cards_in.Goals as goal

pub returns-clause-there : goal.returns-clause-there
returns-clause-there c some = cards_there c.args.hooks c.args.picks c.args.len c.min.result c.if-len-lt12.false c.min.ensures
