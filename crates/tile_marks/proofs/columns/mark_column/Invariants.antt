use Rattle.std.proofs.Common.{◌≡◌, ◌-◌, ◌<◌, ◌≤◌, ℕ, false, length, get_or}
use Rattle.tile_marks.proofs.Marked.{so_far}
use Rattle.tile_marks.proofs.columns.mark_column.Given as goal

abbrev pub invariant-loop-row : goal.invariant-loop-row
invariant-loop-row l = record {
  len : length l.set ≡ length l.initial.set;
  bound : l.from ≤ length l.rows;
  tiles : (u : ℕ) → u < length l.initial.set → get_or l.set u false ≡ so_far l.initial.set l.rows l.across l.column l.from u;
}

abbrev pub decreases-loop-row : goal.decreases-loop-row
decreases-loop-row l = length l.rows - l.from
