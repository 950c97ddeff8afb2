use Rattle.std.proofs.Common.{◌≡◌, length}
use Rattle.studio_bench.proofs.cards.lift_all.Given as goal

abbrev pub invariant-loop-turn : goal.invariant-loop-turn
invariant-loop-turn l = (l.machine ≡ l.fn.machine) × (length l.ends ≡ length l.machine.tie.ends)
