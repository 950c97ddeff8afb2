use Rattle.std.proofs.Common.{◌≡◌, ◌*◌, length, ◌∙◌, arith}
use Rattle.mill_base.proofs.lemmas.Rows.{past_row}
use Rattle.mill_base.proofs.lemmas.BitCounts.{counted, counted_past, counted_few}
use Rattle.mill_base.proofs.row_words.count.Goals as goal

pub overflow_cast-result : goal.overflow_cast-result
overflow_cast-result c =
    let enough = c.requires.enough in
    let same : c.count_all.result ≡ counted c.args.words.now c.args.len = c.count_all.ensures ∙ counted_past c.args.words.now c.args.len (64 * length c.args.words.now) (omega arith) (past_row c.args.words.now c.args.len c.requires) in
    let few = counted_few c.args.words.now c.args.len in
    omega (arith, c.ranges.len.fits)

pub returns : goal.returns
returns c =
    let enough = c.requires.enough in
    c.count_all.ensures ∙ counted_past c.args.words.now c.args.len (64 * length c.args.words.now) (omega arith) (past_row c.args.words.now c.args.len c.requires)
