use Rattle.tile_rebuild.specs.Tiles.{parts_of}
use Rattle.tile_rebuild.specs.Rebuilds.{AreRows, IsRoom}
use Rattle.tile_rebuild.specs.inner.Cells.{AreRowsLong, raw_up}
use Rattle.tile_rebuild.proofs.rebuild.mark_colours.Given as goal

abbrev pub invariant-loop-a : goal.invariant-loop-a
invariant-loop-a l = record {
  rows : AreRows (parts_of l.design) l.rows;
  room : IsRoom (parts_of l.design) l.room;
  turned : AreRowsLong l.design l.part l.a (raw_up l.design l.part l.lines.columns.items) l.room.turned;
}
