use Rattle.mill_base.specs.Grids.{grid_cell}
use Rattle.tile_rebuild.specs.Tiles.{parts_of}
use Rattle.tile_rebuild.specs.Rebuilds.{IsRoom}
use Rattle.tile_rebuild.specs.inner.Cells.{AreRowsLong}
use Rattle.tile_rebuild.proofs.long_cells.mark_rows.Given as goal

abbrev pub invariant-loop-a : goal.invariant-loop-a
invariant-loop-a l = record {
  room : IsRoom (parts_of l.design) l.room;
  rows : AreRowsLong l.design l.part l.a (λ a y. grid_cell l.columns y a) l.room.turned;
}
