use Rattle.std.proofs.Common.{◌≡◌, ◌<◌, ℕ, [], false, length, get_or}
use Rattle.tile_rebuild.proofs.whole_long.clear_rows.Given as goal

abbrev pub invariant-loop-k : goal.invariant-loop-k
invariant-loop-k l = record {
  width : l.grid.width ≡ l.fn.grid.width;
  height : length l.grid.rows ≡ length l.fn.grid.rows;
  cells : (x j : ℕ) → j < l.k → get_or (get_or l.grid.rows j []) x false ≡ false;
}
