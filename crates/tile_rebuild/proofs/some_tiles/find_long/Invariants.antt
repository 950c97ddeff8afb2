use Rattle.std.proofs.Common.{◌≡◌, ◌-◌, ◌<◌, ◌≤◌, ℕ, Bool, List, false, true, length, get_or}
use Rattle.tile_grid.specs.Tiles.{tiles as tiles_of}
use Rattle.tile_rebuild.specs.Tiles.{grid_of, parts_of}
use Rattle.tile_rebuild.specs.Wholes.{IsWholeRoom}
use Rattle.tile_rebuild.specs.inner.Passes.{AreSomeLong, HaveLines}
use Rattle.tile_rebuild.proofs.lemmas.SomeTiles.{long_so_far}
use Rattle.tile_rebuild.proofs.some_tiles.find_long.Given as goal

abbrev pub invariant-loop-pick : goal.invariant-loop-pick
invariant-loop-pick l = record {
  bound : l.from ≤ length l.picks;
  room : IsWholeRoom (parts_of l.design) l.room;
  raw : l.room.raw ≡ l.fn.room.raw;
  long : l.room.long ≡ l.fn.room.long;
  len : length l.found ≡ length l.fn.found;
  found : (tiles columns : List Bool) (tile : ℕ) → HaveLines l.design tiles columns l.picks → AreSomeLong l.design columns l.fn.room.raw l.fn.room.long → tile < tiles_of (grid_of l.design)
      → get_or tiles tile false ≡ true → get_or l.found tile false ≡ long_so_far l.design l.fn.room.raw tile l.from;
}

abbrev pub decreases-loop-pick : goal.decreases-loop-pick
decreases-loop-pick l = length l.picks - l.from
