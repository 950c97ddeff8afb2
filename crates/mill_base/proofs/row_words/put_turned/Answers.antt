use Rattle.std.proofs.Common.{◌*◌, ◌∙◌, length-set, arith}
use Rattle.mill_base.proofs.lemmas.RotatedRows.{turned_more, turned_less}
use Rattle.mill_base.proofs.row_words.put_turned.Goals as goal

pub loop-index-preserved : goal.loop-index-preserved
loop-index-preserved c = record {
  long = length-set c.loop-index.out.items c.loop-index.index c.turned_word.result ∙ c.loop-index.invariant.long;
  turned = turned_more c.args.words.now c.args.len c.args.by c.loop-index.out.items c.loop-index.index c.turned_word.result
      (let long = c.loop-index.invariant.long in omega arith) c.loop-index.invariant.turned c.turned_word.ensures.ahead c.turned_word.ensures.round;
}

pub returns-clause-turned : goal.returns-clause-turned
returns-clause-turned c =
    turned_less c.args.words.now c.args.len c.args.by c.loop-index.out.items (64 * c.loop-index.index) c.args.len
    (let enough = c.requires.row.enough in omega arith) c.loop-index.invariant.turned
