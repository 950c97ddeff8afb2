use Rattle.mill_base.proofs.lemmas.Blocks.{bit_of_both}
use Rattle.mill_base.proofs.joint.BothJoint.word.Goals as goal

pub returns : goal.returns
returns c i within = bit_of_both c.args.one c.args.other i
