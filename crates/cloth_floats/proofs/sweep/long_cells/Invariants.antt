use Rattle.cloth_floats.proofs.Indexed.{positions_left}
use Rattle.cloth_floats.proofs.Walks.{AreSettled}
use Rattle.cloth_floats.proofs.sweep.long_cells.Given as goal

abbrev pub invariant-loop-next : goal.invariant-loop-next
invariant-loop-next l = AreSettled l.line l.lifted l.unlifted l.out l.next

abbrev pub decreases-loop-next : goal.decreases-loop-next
decreases-loop-next l = positions_left l.line l.next
