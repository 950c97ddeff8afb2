use Rattle.std.proofs.Common.{◌≡◌, false, replicate}
use Rattle.mill_base.proofs.bit_grid.BitGrid.new.Given as goal

abbrev pub invariant-loop : goal.invariant-loop
invariant-loop l = l.rows.items ≡ replicate l.counter (replicate l.width false)
