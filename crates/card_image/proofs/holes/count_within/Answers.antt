use Rattle.std.proofs.Common.{◌+◌, ◌∙◌, ℕ, ap, arith}
use Rattle.std.proofs.lemmas.Nat.{ones-le}
use Rattle.card_image.proofs.Words.{word_counted, within_more, holes_counted, holes_within}
use Rattle.card_image.proofs.holes.count_within.Goals as goal

pub loop-index-preserved : goal.loop-index-preserved
loop-index-preserved c =
    let few = ones-le 64 c.word_from-word.result c.word_from-word.type_inv in record {
      few = omega (arith, few, c.from-count.ensures, c.loop-index.invariant.few);
      counted = ap (λ (n : ℕ). c.loop-index.count + n) c.from-count.ensures
          ∙ word_counted c.args.holes.now c.loop-index.index c.loop-index.count c.word_from-word.result c.word_from-word.type_inv c.word_from-word.ensures c.loop-index.invariant.counted;
      within = within_more c.args.holes.now c.args.mask.now c.loop-index.index c.word_from-word.result c.word_from.result c.word_from-word.ensures c.word_from.ensures
          (c.lies_within.ensures c.if-not-lies_within.false) c.loop-index.invariant.within;
    }

pub returns-clause-count : goal.returns-clause-count
returns-clause-count c =
    holes_counted c.args.holes.now c.loop-index.index c.loop-index.count (omega (arith, c.loop-index-test.false, c.loop-index.auto.index-end)) c.loop-index.invariant.counted

pub returns-clause-within : goal.returns-clause-within
returns-clause-within c = holes_within c.args.holes.now c.args.mask.now c.loop-index.index (omega (arith, c.loop-index-test.false, c.loop-index.auto.index-end)) c.loop-index.invariant.within
