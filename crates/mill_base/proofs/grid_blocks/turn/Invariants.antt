use Rattle.mill_base.specs.inner.GridBlocks.{AreBandsTurned}
use Rattle.mill_base.proofs.grid_blocks.turn.Given as goal

abbrev pub invariant-loop-band : goal.invariant-loop-band
invariant-loop-band l = AreBandsTurned l.rows l.band l.fn.out l.out
