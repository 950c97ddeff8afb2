use Rattle.std.proofs.Common.{◌==◌, ◌∙◌, ap, arith}
use Rattle.std.specs.Int.{bit_at}
use Rattle.mill_base.specs.Lines.{same}
use Rattle.mill_base.proofs.lemmas.Blocks.{bit_of_alike}
use Rattle.mill_base.proofs.word.same_as_next.Goals as goal

pub returns-clause-inner : goal.returns-clause-inner
returns-clause-inner c i within =
    bit_of_alike c.args.word c.joined.result i c.ranges.word.fits (omega arith) ∙ ap (λ b. same (bit_at c.args.word i == 1) (b == 1)) (c.joined.ensures.low i (omega arith))

pub returns-clause-last : goal.returns-clause-last
returns-clause-last c =
    bit_of_alike c.args.word c.joined.result 63 c.ranges.word.fits (omega arith) ∙ ap (λ b. same (bit_at c.args.word 63 == 1) (b == 1)) (c.joined.ensures.high 63 (omega arith) (omega arith))
