use Rattle.mill_base.specs.inner.Swaps.{ArePairsSwapped}
use Rattle.mill_base.proofs.transpose.swap_square.Given as goal

abbrev pub invariant-loop-row : goal.invariant-loop-row
invariant-loop-row l = ArePairsSwapped l.mask l.by l.start l.row l.fn.block l.block
