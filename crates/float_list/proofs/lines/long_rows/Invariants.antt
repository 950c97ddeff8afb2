use Rattle.std.proofs.Common.{◌≡◌, ◌<◌, ℕ, false, length, slice_index_or}
use Rattle.std.specs.Prelude.{None}
use Rattle.mill_base.specs.Grids.{grid_row}
use Rattle.cloth_floats.specs.Floats.{first_long_of}
use Rattle.float_list.proofs.lines.long_rows.Given as goal

abbrev pub invariant-loop-k : goal.invariant-loop-k
invariant-loop-k l = record {
  none : (k : ℕ) → k < l.k → slice_index_or l.marks k false ≡ false → first_long_of (grid_row l.grid k) l.limits.lifted l.limits.unlifted ≡ None;
  marks : length l.marks ≡ length l.grid.rows;
  long : length l.long ≡ l.grid.width;
}
