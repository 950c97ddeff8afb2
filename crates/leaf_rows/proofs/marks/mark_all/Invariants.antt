use Rattle.std.proofs.Common.{◌≡◌, length}
use Rattle.leaf_rows.proofs.marks.mark_all.Given as goal

abbrev pub invariant-loop-tile : goal.invariant-loop-tile
invariant-loop-tile l = length l.marks ≡ 16
