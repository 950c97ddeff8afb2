use Rattle.std.proofs.Common.{◌≡◌, ◌-◌, ◌<◌, ◌||◌, ℕ, false, length, get_or}
use Rattle.mill_base.specs.Below.{any_below}
use Rattle.tile_grid.specs.Tiles.{tiles}
use Rattle.tile_rebuild.specs.Tiles.{grid_of}
use Rattle.tile_rebuild.proofs.lemmas.Flags.{is_hit}
use Rattle.tile_rebuild.proofs.whole.flag_pick.Given as goal

abbrev pub invariant-loop-column : goal.invariant-loop-column
invariant-loop-column l = record {
  len : length l.flags ≡ length l.fn.flags;
  flags : (tile : ℕ) → tile < tiles (grid_of l.design) → get_or l.flags tile false ≡ (get_or l.fn.flags tile false || any_below (is_hit (grid_of l.design) tile l.pick l.long) l.from);
}

abbrev pub decreases-loop-column : goal.decreases-loop-column
decreases-loop-column l = length l.long - l.from
