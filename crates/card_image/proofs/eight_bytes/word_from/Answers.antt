use Rattle.std.proofs.Common.{◌+◌, ◌<◌, get_or, sym, subst, ap, ◌∙◌}
use Rattle.std.specs.Int.{bit_at}
use Rattle.std.proofs.Math.Facts.{Fits-lt-pow}
use Rattle.mill_base.proofs.lemmas.Bytes.{bit_of_read}
use Rattle.card_image.proofs.eight_bytes.word_from.Goals as goal

pub returns : goal.returns
returns c j i low few =
    bit_of_read (λ j. get_or c.eight_from.result j 0) c.from_le_bytes.result j i
    (λ j low. subst (λ n. n < 256) (sym (c.eight_from.ensures j low)) (Fits-lt-pow (c.type_inv.bytes (c.args.at + j))))
    c.from_le_bytes.ensures low few
    ∙ ap (λ n. bit_at n i) (c.eight_from.ensures j low)
