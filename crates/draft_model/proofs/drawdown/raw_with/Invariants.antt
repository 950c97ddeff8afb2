use Rattle.std.proofs.Common.{◌≡◌, ◌<◌, ℕ, [], length, get_or}
use Rattle.mill_base.specs.Lines.{line_by}
use Rattle.draft_model.specs.Cloths.{raw_cell}
use Rattle.draft_model.proofs.drawdown.raw_with.Given as goal

abbrev pub invariant-loop-pick : goal.invariant-loop-pick
invariant-loop-pick g l = record {
  columns : l.raw.width ≡ l.design.size.columns;
  picks : length l.raw.rows ≡ l.design.size.picks;
  colours : length l.colours.items ≡ l.design.size.columns;
  row : length l.row ≡ l.design.size.columns;
  rows : (k : ℕ) → k < l.pick → get_or l.raw.rows k [] ≡ line_by l.paper.columns (λ column. raw_cell l.design.book l.paper column k);
}
