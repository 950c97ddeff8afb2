use Rattle.std.proofs.Common.{◌≡◌, ◌/◌}
use Rattle.std.specs.Prelude.{slice_index}
use Rattle.mill_base.specs.Lines.{line_by}
use Rattle.tile_grid.proofs.kinds.kinds_of_ends.Given as goal

abbrev pub invariant-loop-column : goal.invariant-loop-column
invariant-loop-column l = l.kinds.items ≡ line_by l.column-index (λ e. slice_index l.columns_of_ends e / l.side)
