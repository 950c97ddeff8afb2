use Rattle.std.proofs.Common.{◌≡◌, ◌-◌, ◌≤◌, length}
use Rattle.tile_rebuild.proofs.lemmas.SomeTiles.{LinesSoFar}
use Rattle.tile_rebuild.proofs.some_tiles.find_lines.Given as goal

abbrev pub invariant-loop-tile : goal.invariant-loop-tile
invariant-loop-tile l = record {
  bound : l.from ≤ length l.tiles;
  columns_long : length l.columns ≡ length l.fn.columns;
  picks_long : length l.picks ≡ length l.fn.picks;
  lines : LinesSoFar l.design l.tiles l.from l.columns l.picks;
}

abbrev pub decreases-loop-tile : goal.decreases-loop-tile
decreases-loop-tile l = length l.tiles - l.from
