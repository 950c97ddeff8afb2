use Rattle.std.proofs.Common.{arith, false}
use Rattle.std.proofs.Math.Facts.{Fits-lt-pow}
use Rattle.std.proofs.lemmas.Bool.{both_ways}
use Rattle.mill_base.proofs.lemmas.FirstBits.{some_bit}
use Rattle.mill_base.proofs.turning.are_clear.Goals as goal

pub returns-then-words-index-ne0 : goal.returns-then-words-index-ne0
returns-then-words-index-ne0 c = (
  λ e. absurd (both_ways false (λ i. false) e),
  λ none. absurd (some_bit c.args.words.now c.loop-index.index (let some = c.if-words-index-ne0.true in omega arith) (Fits-lt-pow (c.type_inv.words c.loop-index.index)) (λ k h. none k (let in_ = c.loop-index-test.true in omega arith))),
)
