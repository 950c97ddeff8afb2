use Rattle.std.proofs.Common.{◌≡◌, ◌-◌, ◌<◌, ◌≤◌, ℕ, false, true, length, get_or}
use Rattle.tile_rebuild.proofs.some_tiles.take_flags.Given as goal

abbrev pub invariant-loop-tile : goal.invariant-loop-tile
invariant-loop-tile l = record {
  bound : l.from ≤ length l.tiles;
  len : length l.flags ≡ length l.fn.flags;
  flags : (t : ℕ) → t < l.from → get_or l.tiles t false ≡ true → get_or l.flags t false ≡ get_or l.found t false;
  others : (t : ℕ) → get_or l.tiles t false ≡ false → get_or l.flags t false ≡ get_or l.fn.flags t false;
}

abbrev pub decreases-loop-tile : goal.decreases-loop-tile
decreases-loop-tile l = length l.tiles - l.from
