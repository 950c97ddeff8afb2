use Rattle.std.proofs.Common.{◌∙◌}
use Rattle.card_image.proofs.Words.{holes_of_row}
use Rattle.card_image.proofs.writing.count_holes.Goals as goal

pub returns : goal.returns
returns c = c.count.ensures ∙ holes_of_row c.args.card.now
