use Rattle.std.proofs.Common.{◌≡◌, ◌+◌, ◌*◌, ◌<◌, ◌==◌, ℕ, get_or}
use Rattle.std.specs.Int.{bit_at}
use Rattle.mill_base.specs.Grids.{row_cell}
use Rattle.mill_base.proofs.grid_blocks.gather.Given as goal

abbrev pub invariant-loop-i : goal.invariant-loop-i
invariant-loop-i l = (i j : ℕ) → i < l.i → j < 64 → (bit_at (get_or l.block i 0) j == 1) ≡ row_cell l.rows (64 * l.at + j) (64 * l.band + i)
