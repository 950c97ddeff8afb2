use Rattle.mill_base.specs.inner.GridBlocks.{IsBandTurned}
use Rattle.mill_base.proofs.grid_blocks.turn_band.Given as goal

abbrev pub invariant-loop-at : goal.invariant-loop-at
invariant-loop-at l = IsBandTurned l.rows l.band l.at l.fn.out l.out
