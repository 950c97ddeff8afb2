use Rattle.std.proofs.Common.{arith}
use Rattle.mill_base.proofs.lemmas.Blocks.{none_merged, one_merged}
use Rattle.mill_base.proofs.turning.merged_words.Goals as goal

pub loop-index-init : goal.loop-index-init
loop-index-init c = none_merged c.args.mask.now c.args.inside.now c.args.outside.now 256

pub loop-index-preserved : goal.loop-index-preserved
loop-index-preserved c =
    one_merged c.args.mask.now c.args.inside.now c.args.outside.now c.loop-index.words 256 c.loop-index.index c.merged.result (omega arith) c.merged.ensures.outside
    c.merged.ensures.inside c.loop-index.invariant
