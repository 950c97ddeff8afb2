use Rattle.std.proofs.Common.{arith}
use Rattle.card_image.proofs.Words.{within_word}
use Rattle.card_image.proofs.holes.lies_within.Goals as goal

pub returns : goal.returns
returns c none = within_word c.args.word c.args.mask (omega (arith, c.ranges.mask.fits)) none
