use Rattle.std.proofs.Common.{◌≡◌, ◌<◌, ◌≤◌, ℕ, [], length, get_or}
use Rattle.mill_base.specs.Lines.{line_by}
use Rattle.draft_model.specs.Drawdowns.{column_long}
use Rattle.draft_model.specs.Inner.{bits_of, end_long}
use Rattle.draft_model.proofs.long_columns.long_columns.Given as goal

abbrev pub invariant-loop-pick : goal.invariant-loop-pick
invariant-loop-pick l = record {
  width : l.long.width ≡ l.design.size.columns;
  height : length l.long.rows ≡ l.design.size.picks;
  ends : length l.ends ≡ length l.design.tie.ends;
  ends_long : length l.ends_long ≡ length l.design.tie.ends;
  columns : length l.columns ≡ l.design.size.columns;
  done : (k : ℕ) → k < l.pick → get_or l.long.rows k [] ≡ line_by l.design.size.columns (λ column. column_long l.design (bits_of l.raw) column k);
  left : (k : ℕ) → l.pick ≤ k → k < l.design.size.picks → get_or l.long.rows k [] ≡ line_by l.design.size.columns (λ column. end_long l.design l.raw column k);
}
