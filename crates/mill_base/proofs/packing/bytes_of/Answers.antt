use Rattle.std.proofs.Common.{◌≡◌, ◌+◌, ◌-◌, ◌*◌, ◌/◌, ◌%◌, get_or, ap, ◌∙◌, arith}
use Rattle.std.specs.Int.{bit_at}
use Rattle.mill_base.proofs.lemmas.Bytes.{bit_of_byte}
use Rattle.mill_base.proofs.packing.bytes_of.Goals as goal

pub returns : goal.returns
returns c b i hb hi =
    ap (λ bytes. bit_at (get_or bytes b 0) i) c.to_le_bytes.ensures ∙ bit_of_byte c.reversed_bytes.result b i hb hi
    ∙ c.reversed_bytes.ensures (8 * b + i) (omega arith) ∙ ap (bit_at c.args.word) (let e : 8 * ((8 * b + i) / 8) + (7 - (8 * b + i) % 8) ≡ 8 * b + 7 - i = omega arith in e)
