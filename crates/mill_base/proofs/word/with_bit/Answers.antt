use Rattle.std.proofs.Common.{◌==◌, w64, ap, sym, ◌∙◌}
use Rattle.std.proofs.lemmas.Nat.Bits.{bit_at_set_same, bit_at_set_other, bit_at_clear_same, bit_at_clear_other}
use Rattle.mill_base.proofs.word.with_bit.Goals as goal

pub returns-then-value-clause-here : goal.returns-then-value-clause-here
returns-then-value-clause-here c = ap (λ n. n == 1) (bit_at_set_same w64 c.args.word c.args.at c.requires) ∙ sym c.if-value.true

pub returns-then-value-clause-others : goal.returns-then-value-clause-others
returns-then-value-clause-others c i h ne = bit_at_set_other w64 c.args.word c.args.at c.requires i ne

pub returns-clause-here : goal.returns-clause-here
returns-clause-here c = ap (λ n. n == 1) (bit_at_clear_same w64 c.args.word c.args.at c.requires) ∙ sym c.if-value.false

pub returns-clause-others : goal.returns-clause-others
returns-clause-others c i h ne = bit_at_clear_other w64 c.args.word c.args.at c.requires i h ne
