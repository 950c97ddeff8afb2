use Rattle.std.proofs.Common.{◌*◌, ◌%◌, ◌^◌, ◌==◌, ◌||◌, ap, ◌∙◌, arith}
use Rattle.std.specs.Int.{bit_at}
use Rattle.mill_base.proofs.lemmas.Stretches.{bit_of_either}
use Rattle.mill_base.proofs.lemmas.WordBits.{bit_at_or_left, bit_at_shl_below, bit_at_shl_from}
use Rattle.mill_base.proofs.turning.with_start.Goals as goal

pub returns-clause-below : goal.returns-clause-below
returns-clause-below c i h =
    bit_at_or_left c.args.word (c.args.first * 2 ^ c.args.past % 2 ^ 64) i (bit_at_shl_below c.args.first c.args.past 64 i h (omega arith))

pub returns-clause-above : goal.returns-clause-above
returns-clause-above c i from within =
    bit_of_either c.args.word (c.args.first * 2 ^ c.args.past % 2 ^ 64) i
    ∙ ap (λ b. (bit_at c.args.word i == 1) || (b == 1)) (bit_at_shl_from c.args.first c.args.past 64 i from within)
