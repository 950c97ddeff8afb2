use Rattle.std.proofs.Common.{◌≡◌, ◌+◌, ◌<◌, ℕ, [], get_or}
use Rattle.tile_rebuild.proofs.bit_lines.same_picks.Given as goal

abbrev pub invariant-loop-b : goal.invariant-loop-b
invariant-loop-b l = (b : ℕ) → b < l.b → get_or l.kept.rows b [] ≡ get_or l.bits.rows (l.part.pick + b) []
