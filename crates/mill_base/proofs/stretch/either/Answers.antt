use Rattle.mill_base.proofs.lemmas.Stretches.{bit_of_either}
use Rattle.mill_base.proofs.stretch.either.Goals as goal

pub returns : goal.returns
returns c i = bit_of_either c.args.one c.args.other i
