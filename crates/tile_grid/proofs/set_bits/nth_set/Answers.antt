use Rattle.std.proofs.Common.{arith}
use Rattle.std.proofs.Math.Facts.{Fits-lt-pow}
use Rattle.tile_grid.proofs.Counts.{count_word}
use Rattle.tile_grid.proofs.set_bits.nth_set.Goals as goal

pub nth_in_word-requires-clause-k : goal.nth_in_word-requires-clause-k
nth_in_word-requires-clause-k c = let more = count_word c.args.words.now c.loop-index.index (Fits-lt-pow (c.type_inv.words c.loop-index.index)) in omega (arith, more, c.if-left-ones.true)

pub loop-index-preserved : goal.loop-index-preserved
loop-index-preserved c =
    let more = count_word c.args.words.now c.loop-index.index (Fits-lt-pow (c.type_inv.words c.loop-index.index)) in
    omega (arith, more, c.if-left-ones.false, c.loop-index.invariant)
