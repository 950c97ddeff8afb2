use Rattle.std.proofs.Common.{◌≡◌, ◌<◌, ◌≤◌, ℕ, [], false, length, get_or}
use Rattle.cloth_floats.specs.Windows.{long_of}
use Rattle.draft_model.proofs.long_columns.mark_long_rows.Given as goal

abbrev pub invariant-loop-k : goal.invariant-loop-k
invariant-loop-k l = record {
  width : l.grid.width ≡ l.fn.grid.width;
  height : length l.grid.rows ≡ length l.fn.grid.rows;
  line : length l.line ≡ l.fn.grid.width;
  done : (j : ℕ) → j < l.k → get_or l.grid.rows j [] ≡ long_of (get_or l.fn.grid.rows j []) l.lifted l.unlifted;
  none : l.any ≡ false → (j i : ℕ) → j < l.k → get_or (get_or l.grid.rows j []) i false ≡ false;
  left : (j : ℕ) → l.k ≤ j → get_or l.grid.rows j [] ≡ get_or l.fn.grid.rows j [];
}
