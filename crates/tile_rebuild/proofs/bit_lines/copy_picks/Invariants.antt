use Rattle.std.proofs.Common.{◌≡◌, ◌+◌, ◌<◌, ℕ, [], length, get_or}
use Rattle.tile_rebuild.proofs.bit_lines.copy_picks.Given as goal

abbrev pub invariant-loop-b : goal.invariant-loop-b
invariant-loop-b l = record {
  width : l.out.width ≡ l.fn.out.width;
  height : length l.out.rows ≡ length l.fn.out.rows;
  rows : (b : ℕ) → b < l.b → get_or l.out.rows b [] ≡ get_or l.bits.rows (l.part.pick + b) [];
}
