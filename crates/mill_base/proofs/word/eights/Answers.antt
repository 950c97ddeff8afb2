use Rattle.std.proofs.Common.{◌/◌, bit_and, refl}
use Rattle.mill_base.proofs.lemmas.WordBits.{bit_at_eight}
use Rattle.mill_base.proofs.word.eights.Goals as goal

pub returns : goal.returns
returns c i within =
    let pairs = bit_and c.args.word (c.args.word / 2) in
    let fours = bit_and pairs (pairs / 4) in
    bit_at_eight c.args.word pairs fours (bit_and fours (fours / 16)) i refl refl refl
