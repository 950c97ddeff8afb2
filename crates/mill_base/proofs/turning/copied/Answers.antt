use Rattle.std.proofs.Common.{arith, subst, ℕ}
use Rattle.mill_base.proofs.lemmas.Blocks.{AreCopied, none_copied, one_copied, bit_copied}
use Rattle.mill_base.proofs.turning.copied.Goals as goal

pub loop-index-init : goal.loop-index-init
loop-index-init c = none_copied c.args.from.now 256

pub loop-index-preserved : goal.loop-index-preserved
loop-index-preserved c = one_copied c.args.from.now c.loop-index.words 256 c.loop-index.index (omega arith) c.loop-index.invariant

pub returns : goal.returns
returns c k = bit_copied c.args.from.now c.loop-index.words 256 k (subst (λ (n : ℕ). AreCopied c.args.from.now 256 n c.loop-index.words) (omega arith) c.loop-index.invariant)
