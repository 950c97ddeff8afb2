use Rattle.mill_base.specs.inner.GridBlocks.{IsBlockPut}
use Rattle.mill_base.proofs.grid_blocks.scatter.Given as goal

abbrev pub invariant-loop-i : goal.invariant-loop-i
invariant-loop-i l = IsBlockPut l.block l.band l.at l.i l.fn.rows l.rows
