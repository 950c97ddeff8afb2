use Rattle.std.proofs.Common.{arith}
use Rattle.mill_base.proofs.lemmas.FirstBits.{first_here, none_here}
use Rattle.mill_base.proofs.row_words.first_set.Goals as goal

pub returns-then-word-ne0-clause-some : goal.returns-then-word-ne0-clause-some
returns-then-word-ne0-clause-some c =
    first_here c.args.words.now c.args.from c.loop-place.place c.ahead-word.result c.loop-place.invariant.ahead c.ahead-word.ensures.bits c.ahead-word.ensures.past
    (let some = c.if-word-ne0.true in omega arith) (let fits = c.ahead-word.type_inv in omega arith) c.loop-place.invariant.before

pub loop-place-preserved : goal.loop-place-preserved
loop-place-preserved c = record {
  ahead = (let a = c.loop-place.invariant.ahead in omega arith);
  bound = (let a = c.loop-place-test.true in let b = c.requires.words in omega arith);
  before = none_here c.args.words.now c.args.from c.loop-place.place c.ahead-word.result c.ahead-word.ensures.bits (let none = c.if-word-ne0.false in omega arith) c.loop-place.invariant.before;
}
