use Rattle.mill_base.proofs.lemmas.Blocks.{AreCopied}
use Rattle.mill_base.proofs.turning.copied.Given as goal

abbrev pub invariant-loop-index : goal.invariant-loop-index
invariant-loop-index l = AreCopied l.from 256 l.index l.words
