use Rattle.std.proofs.Common.{◌-◌, ◌==◌, ◌∙◌, ap, arith}
use Rattle.mill_base.specs.Bits.{bit_of}
use Rattle.mill_base.proofs.stretch.word_down.Goals as goal

pub returns : goal.returns
returns c i within = ap (λ b. b == 1) (c.reversed.ensures i within) ∙ c.word_from.ensures (63 - i) (omega arith) ∙ ap (bit_of c.args.from.now) (omega arith)
