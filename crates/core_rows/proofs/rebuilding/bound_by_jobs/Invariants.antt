use Rattle.std.proofs.Common.{◌≡◌, length}
use Rattle.draft_model.specs.Designs.{IsBitsOf}
use Rattle.core_rows.proofs.rebuilding.bound_by_jobs.Given as goal

abbrev pub invariant-loop-tile : goal.invariant-loop-tile
invariant-loop-tile l = record {
  row : length l.row ≡ l.work.design.size.columns;
  bits : IsBitsOf l.work.design l.bits;
}
