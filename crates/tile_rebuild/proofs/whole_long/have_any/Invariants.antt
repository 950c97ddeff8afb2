use Rattle.std.proofs.Common.{◌≡◌, ◌-◌, ◌<◌, ◌≤◌, ℕ, [], false, true, length, get_or}
use Rattle.tile_rebuild.proofs.whole_long.have_any.Given as goal

abbrev pub invariant-loop-k : goal.invariant-loop-k
invariant-loop-k l = record {
  bound : l.from ≤ length l.rows;
  none : (j : ℕ) → j < l.from → get_or l.rows j false ≡ true → (x : ℕ) → get_or (get_or l.grid.rows j []) x false ≡ false;
}

abbrev pub decreases-loop-k : goal.decreases-loop-k
decreases-loop-k l = length l.rows - l.from
