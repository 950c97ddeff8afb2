use Rattle.std.proofs.Common.{◌≤◌}
use Rattle.shift_run.proofs.shares.place_of.Given as goal

abbrev pub invariant-looms : goal.invariant-looms
invariant-looms l = l.place ≤ l.loom
