use Rattle.std.proofs.Common.{◌≡◌, ◌-◌, ◌<◌, ◌≤◌, ℕ, [], false, true, length, get_or}
use Rattle.cloth_floats.specs.Windows.{long_of}
use Rattle.tile_rebuild.proofs.whole_long.mark_some_rows.Given as goal

abbrev pub invariant-loop-k : goal.invariant-loop-k
invariant-loop-k l = record {
  bound : l.from ≤ length l.rows;
  width : l.grid.width ≡ l.fn.grid.width;
  height : length l.grid.rows ≡ length l.fn.grid.rows;
  line : length l.line ≡ l.fn.grid.width;
  done : (j : ℕ) → j < l.from → get_or l.rows j false ≡ true → get_or l.grid.rows j [] ≡ long_of (get_or l.fn.grid.rows j []) l.lifted l.unlifted;
  left : (j : ℕ) → l.from ≤ j → get_or l.grid.rows j [] ≡ get_or l.fn.grid.rows j [];
}

abbrev pub decreases-loop-k : goal.decreases-loop-k
decreases-loop-k l = length l.rows - l.from
