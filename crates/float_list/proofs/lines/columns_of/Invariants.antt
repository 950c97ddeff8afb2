use Rattle.std.proofs.Common.{◌≡◌, ◌<◌, ℕ, [], length, get_or}
use Rattle.float_list.proofs.lines.columns_of.Given as goal

abbrev pub invariant-loop-pick : goal.invariant-loop-pick
invariant-loop-pick l = record {
  width : l.grid.width ≡ l.bits.columns;
  height : length l.grid.rows ≡ length l.bits.rows;
  rows : (k : ℕ) → k < l.pick → get_or l.grid.rows k [] ≡ get_or l.bits.rows k [];
}
