use Rattle.std.proofs.Common.{◌≡◌, ℕ, Bool, false}
use Rattle.mill_base.specs.Below.{any_below}
use Rattle.mill_base.specs.Grids.{grid_cell}
use Rattle.tile_rebuild.specs.Tiles.{parts_of}
use Rattle.tile_rebuild.specs.Rebuilds.{IsRoom}
use Rattle.tile_rebuild.specs.inner.Cells.{AreColumnsLong, is_long_in}
use Rattle.tile_rebuild.proofs.rebuild.any_long.Given as goal

abbrev pub invariant-loop-b : goal.invariant-loop-b
invariant-loop-b l = record {
  room : IsRoom (parts_of l.design) l.room;
  hits : l.room.hits ≡ l.fn.room.hits;
  none : (up : ℕ → ℕ → Bool) → AreColumnsLong l.design l.part up l.fn.room.hits → any_below (λ b. any_below (λ a. is_long_in l.design l.part (λ j x. grid_cell l.picks x j) up a b) l.part.width) l.b ≡ false;
}
