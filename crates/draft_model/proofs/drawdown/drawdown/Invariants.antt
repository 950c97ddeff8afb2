use Rattle.std.proofs.Common.{◌≡◌, ◌<◌, ℕ, pos, [], length, get_or}
use Rattle.mill_base.specs.Lines.{line_by}
use Rattle.draft_model.specs.Cloths.{cloth}
use Rattle.draft_model.specs.Drawdowns.{bound}
use Rattle.draft_model.proofs.drawdown.drawdown.Given as goal

abbrev pub invariant-loop-pick : goal.invariant-loop-pick
invariant-loop-pick l = record {
  ends : l.cloth.ends ≡ length l.design.tie.ends;
  picks : length l.cloth.rows ≡ l.design.size.picks;
  row : length l.row ≡ length l.design.tie.ends;
  rows : (k : ℕ) → k < l.pick → get_or l.cloth.rows k [] ≡ line_by (length l.design.tie.ends) (λ e. cloth l.design.tie.ends (bound l.design l.paper) (pos e) (pos k));
}
