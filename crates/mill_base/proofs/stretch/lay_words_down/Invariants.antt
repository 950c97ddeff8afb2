use Rattle.std.proofs.Common.{◌-◌, ◌*◌}
use Rattle.mill_base.specs.Bits.{bit_of}
use Rattle.mill_base.specs.inner.Stretches.{AreLaid}
use Rattle.mill_base.proofs.stretch.lay_words_down.Given as goal

abbrev pub invariant-loop-done : goal.invariant-loop-done
invariant-loop-done l = AreLaid l.initial.out (64 * l.at) (64 * l.done) (λ i. bit_of l.from (l.start - i)) l.out
