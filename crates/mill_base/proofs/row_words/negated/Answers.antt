use Rattle.mill_base.proofs.lemmas.Masks.{bit_negated}
use Rattle.mill_base.proofs.row_words.negated.Goals as goal

pub returns : goal.returns
returns c i within = bit_negated c.args.word i c.ranges.word.fits within
