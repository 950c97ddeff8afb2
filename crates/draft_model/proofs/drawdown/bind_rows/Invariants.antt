use Rattle.std.proofs.Common.{◌≡◌, ◌<◌, ℕ, [], length, get_or}
use Rattle.mill_base.specs.Lines.{line_by}
use Rattle.draft_model.specs.Drawdowns.{cell_bound}
use Rattle.draft_model.specs.Inner.{bits_of}
use Rattle.draft_model.proofs.drawdown.bind_rows.Given as goal

abbrev pub invariant-loop-pick : goal.invariant-loop-pick
invariant-loop-pick l = record {
  columns : l.bits.columns ≡ l.design.size.columns;
  picks : length l.bits.rows ≡ l.design.size.picks;
  raise : length l.raise ≡ l.design.size.columns;
  sink : length l.sink ≡ l.design.size.columns;
  row : length l.row ≡ l.design.size.columns;
  rows : (k : ℕ) → k < l.pick → get_or l.bits.rows k [] ≡ line_by l.design.size.columns (λ column. cell_bound l.design (bits_of l.raw) column k);
}
