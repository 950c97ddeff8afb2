use Rattle.mill_base.proofs.lemmas.Rows.{bits_all}
use Rattle.mill_base.proofs.bit_block.BitBlock.filled.Goals as goal

pub returns : goal.returns
returns c = bits_all c.filled.result c.args.len c.args.value c.filled.ensures.all
