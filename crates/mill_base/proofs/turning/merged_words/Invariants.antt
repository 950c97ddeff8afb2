use Rattle.mill_base.proofs.lemmas.Blocks.{AreMerged}
use Rattle.mill_base.proofs.turning.merged_words.Given as goal

abbrev pub invariant-loop-index : goal.invariant-loop-index
invariant-loop-index l = AreMerged l.mask l.inside l.outside 256 l.index l.words
