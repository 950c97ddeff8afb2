use Rattle.mill_base.proofs.lemmas.Rows.{length_is}
use Rattle.mill_base.proofs.bit_block.BitBlock.len.Goals as goal

pub returns-clause-len : goal.returns-clause-len
returns-clause-len c = length_is c.self.inside.words c.self.inside.len c.args.self.now c.self.view_is
