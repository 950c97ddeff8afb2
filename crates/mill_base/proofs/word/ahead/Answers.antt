use Rattle.std.proofs.Common.{◌+◌, ◌/◌, ◌%◌, ◌==◌, get_or, ap, ◌∙◌, arith}
use Rattle.std.proofs.lemmas.Nat.Bits.{bit_at_above}
use Rattle.std.proofs.Math.Facts.{Fits-lt-pow}
use Rattle.mill_base.proofs.lemmas.WordBits.{bit_at_shr}
use Rattle.mill_base.proofs.lemmas.FirstBits.{bit_ahead}
use Rattle.mill_base.proofs.word.ahead.Goals as goal

pub returns-clause-bits : goal.returns-clause-bits
returns-clause-bits c i within = ap (λ b. b == 1) (bit_ahead c.args.words.now c.args.at i within)

pub returns-clause-past : goal.returns-clause-past
returns-clause-past c i past =
    bit_at_shr (get_or c.args.words.now (c.args.at / 64) 0) (c.args.at % 64) i
    ∙ bit_at_above (get_or c.args.words.now (c.args.at / 64) 0) 64 (i + c.args.at % 64) (Fits-lt-pow (c.type_inv.words (c.args.at / 64))) (omega arith)
