use Rattle.std.proofs.Common.{◌+◌, ◌-◌, ◌*◌, ◌/◌, ◌%◌, ◌<◌, get_or, sym, subst, ap, ◌∙◌, arith}
use Rattle.std.specs.Int.{bit_at}
use Rattle.std.proofs.Math.Facts.{Fits-lt-pow}
use Rattle.mill_base.proofs.lemmas.Bytes.{bit_of_read}
use Rattle.mill_base.proofs.packing.word_of.Goals as goal

pub returns : goal.returns
returns c i h =
    c.reversed_bytes.ensures i h
    ∙ bit_of_read (λ j. get_or c.eight_from.result j 0) c.from_le_bytes.result (i / 8) (7 - i % 8)
    (λ j low. subst (λ n. n < 256) (sym (c.eight_from.ensures j low)) (Fits-lt-pow (c.type_inv.bytes (8 * c.args.index + j))))
    c.from_le_bytes.ensures (omega arith) (omega arith)
    ∙ ap (λ n. bit_at n (7 - i % 8)) (c.eight_from.ensures (i / 8) (omega arith))
