use Rattle.std.proofs.Common.{◌+◌, ◌*◌, ◌%◌, ◌==◌, ap, ◌∙◌, arith}
use Rattle.mill_base.specs.Bits.{bit_of}
use Rattle.mill_base.proofs.lemmas.Rows.{past_row}
use Rattle.mill_base.proofs.lemmas.WordBits.{bit_at_or_left, bit_at_or_right, clear_bit}
use Rattle.mill_base.proofs.row_words.turned_word.Goals as goal

pub returns-clause-ahead : goal.returns-clause-ahead
returns-clause-ahead c k here ahead =
    ap (λ b. b == 1) (bit_at_or_left c.bits_from.result c.bits_moved_up.result (k % 64) (c.bits_moved_up.ensures.below (k % 64) (omega arith) (omega arith)))
    ∙ c.bits_from.ensures (k % 64) (omega arith)
    ∙ ap (bit_of c.args.words.now) (omega arith)

pub returns-clause-round : goal.returns-clause-round
returns-clause-round c k here within round =
    ap (λ b. b == 1) (bit_at_or_right c.bits_from.result c.bits_moved_up.result (k % 64)
    (clear_bit c.bits_from.result (k % 64)
    (c.bits_from.ensures (k % 64) (omega arith)
    ∙ past_row c.args.words.now c.args.len c.requires.row (64 * c.args.index + c.args.by + k % 64) (omega arith))))
    ∙ c.bits_moved_up.ensures.above (k % 64) (omega arith) (omega arith)
    ∙ ap (bit_of c.args.words.now) (omega arith)
