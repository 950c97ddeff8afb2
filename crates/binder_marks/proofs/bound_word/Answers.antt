use Rattle.std.proofs.Common.{◌-◌, ◌==◌, w64, ap, ◌∙◌, min, max, bit_and, arith}
use Rattle.std.specs.Int.{bit_at, bit_not}
use Rattle.std.proofs.lemmas.Nat.{and_le_l}
use Rattle.std.proofs.lemmas.Nat.Bits.{bit_at-lt, bit_at_and, bit_at_or, bit_at_not}
use Rattle.binder_marks.proofs.Bits.{rule_on_bits}
use Rattle.binder_marks.proofs.bound_word.Goals as goal

pub returns : goal.returns
returns c i h =
    let lowered = bit_at_not w64 (bit_and c.args.long c.args.sink) i (let small = and_le_l c.args.long c.args.sink in omega (arith, small, c.ranges.long.fits)) h in
    let unlifted = bit_at_not w64 c.args.raw i c.ranges.raw.fits h in
    ap (λ n. n == 1) (bit_at_or (bit_and c.args.raw (bit_not w64 (bit_and c.args.long c.args.sink))) (bit_and (bit_and c.args.long c.args.raise) (bit_not w64 c.args.raw)) i
    ∙ ap (λ n. max n (bit_at (bit_and (bit_and c.args.long c.args.raise) (bit_not w64 c.args.raw)) i))
    (bit_at_and c.args.raw (bit_not w64 (bit_and c.args.long c.args.sink)) i
    ∙ ap (min (bit_at c.args.raw i)) (lowered ∙ ap (λ n. 1 - n) (bit_at_and c.args.long c.args.sink i)))
    ∙ ap (max (min (bit_at c.args.raw i) (1 - min (bit_at c.args.long i) (bit_at c.args.sink i))))
    (bit_at_and (bit_and c.args.long c.args.raise) (bit_not w64 c.args.raw) i
    ∙ ap (λ n. min n (bit_at (bit_not w64 c.args.raw) i)) (bit_at_and c.args.long c.args.raise i)
    ∙ ap (min (min (bit_at c.args.long i) (bit_at c.args.raise i))) unlifted))
    ∙ rule_on_bits (bit_at c.args.raw i) (bit_at c.args.long i) (bit_at c.args.raise i) (bit_at c.args.sink i)
    (bit_at-lt c.args.raw i) (bit_at-lt c.args.long i) (bit_at-lt c.args.raise i) (bit_at-lt c.args.sink i)
