use Rattle.card_image.proofs.Cut.{cards_up_at, cards_up_count}
use Rattle.card_image.proofs.laws.cut_cards_are_those_of_the_picks.Goals as goal

pub returns-clause-count : goal.returns-clause-count
returns-clause-count c = cards_up_count

pub returns-clause-card : goal.returns-clause-card
returns-clause-card c = cards_up_at
