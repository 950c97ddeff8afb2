use Rattle.std.proofs.Common.{◌≡◌, ◌<◌, ℕ, false, length, get_or}
use Rattle.mill_base.specs.Below.{any_below}
use Rattle.tile_grid.specs.Tiles.{tiles}
use Rattle.tile_rebuild.specs.Tiles.{grid_of, parts_of}
use Rattle.tile_rebuild.specs.Wholes.{IsWholeRoom}
use Rattle.tile_rebuild.specs.inner.Passes.{any_in_pick, grid_long}
use Rattle.tile_rebuild.proofs.whole.flag_picks.Given as goal

abbrev pub invariant-loop-pick : goal.invariant-loop-pick
invariant-loop-pick l = record {
  room : IsWholeRoom (parts_of l.design) l.room;
  raw : l.room.raw ≡ l.fn.room.raw;
  long : l.room.long ≡ l.fn.room.long;
  len : length l.flags ≡ length l.fn.flags;
  flags : (tile : ℕ) → tile < tiles (grid_of l.design) → get_or l.flags tile false ≡ any_below (λ p. any_in_pick l.design tile p (λ c. grid_long l.design l.fn.room.raw c p)) l.pick;
}
