use Rattle.std.proofs.Common.{◌≡◌, take}
use Rattle.mill_base.proofs.bit_grid.same_rows.Given as goal

abbrev pub invariant-loop-k : goal.invariant-loop-k
invariant-loop-k l = take l.k l.one ≡ take l.k l.other
