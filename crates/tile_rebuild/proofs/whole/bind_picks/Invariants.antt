use Rattle.std.proofs.Common.{◌≡◌, ◌<◌, ℕ}
use Rattle.point_paper.specs.Papers.{bit_cell}
use Rattle.draft_model.specs.Designs.{IsBitsOf}
use Rattle.tile_rebuild.specs.Tiles.{parts_of}
use Rattle.tile_rebuild.specs.Rebuilds.{AreRows}
use Rattle.tile_rebuild.specs.Wholes.{IsWholeRoom}
use Rattle.tile_rebuild.specs.inner.Passes.{grid_bound}
use Rattle.tile_rebuild.proofs.whole.bind_picks.Given as goal

abbrev pub invariant-loop-pick : goal.invariant-loop-pick
invariant-loop-pick l = record {
  rows : AreRows (parts_of l.design) l.rows;
  room : IsWholeRoom (parts_of l.design) l.room;
  raw : l.room.raw ≡ l.fn.room.raw;
  long : l.room.long ≡ l.fn.room.long;
  bits : IsBitsOf l.design l.bits;
  bound : (c p : ℕ) → c < l.design.size.columns → p < l.pick → bit_cell l.bits c p ≡ grid_bound l.design l.fn.room.raw c p;
}
