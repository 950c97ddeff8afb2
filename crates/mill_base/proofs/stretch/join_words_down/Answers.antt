use Rattle.std.proofs.Common.{◌+◌, ◌-◌, ◌*◌, ◌||◌, ◌∙◌, ap, arith}
use Rattle.mill_base.specs.Bits.{bit_of}
use Rattle.mill_base.proofs.lemmas.Blocks.{word_laid}
use Rattle.mill_base.proofs.lemmas.Stretches.{same_join, bit_not_laid}
use Rattle.mill_base.proofs.stretch.join_words_down.Goals as goal

pub loop-done-preserved : goal.loop-done-preserved
loop-done-preserved c =
    word_laid c.args.out.now c.loop-done.out c.args.at c.loop-done.done c.either.result (λ i. bit_of c.args.out.now (64 * c.args.at + i) || bit_of c.args.from.now (c.args.start - i))
    (omega arith) c.loop-done.invariant (λ i h. c.either.ensures i
    ∙ same_join _ _ _ _ (bit_not_laid c.args.out.now c.loop-done.out c.args.at c.loop-done.done i h c.loop-done.invariant.past)
    (c.word_down.ensures i h ∙ ap (bit_of c.args.from.now) (let down = c.requires.down in let t = c.loop-done-test.true in omega arith)))
