use Rattle.std.proofs.Common.{◌≡◌, map}
use Rattle.loom_threads.specs.Looms.{LoomValue}
use Rattle.shift_run.proofs.run.repeats_of_all.Given as goal

abbrev pub invariant-looms : goal.invariant-looms
invariant-looms l = l.all ≡ map (λ (loom : LoomValue). loom.repeats) l.yielded
