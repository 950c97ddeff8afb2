use Rattle.mill_base.proofs.lemmas.Blocks.{bit_of_alike}
use Rattle.mill_base.proofs.joint.AlikeJoint.word.Goals as goal

pub returns : goal.returns
returns c i within = bit_of_alike c.args.one c.args.other i c.ranges.one.fits within
