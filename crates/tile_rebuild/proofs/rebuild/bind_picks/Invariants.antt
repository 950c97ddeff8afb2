use Rattle.tile_rebuild.specs.Tiles.{parts_of}
use Rattle.tile_rebuild.specs.Rebuilds.{AreRows, IsRoom, IsTileRoom}
use Rattle.tile_rebuild.specs.inner.Cells.{AreColumnsLong, AreBoundBy, raw_along, raw_up}
use Rattle.tile_rebuild.proofs.rebuild.bind_picks.Given as goal

abbrev pub invariant-loop-b : goal.invariant-loop-b
invariant-loop-b l = record {
  rows : AreRows (parts_of l.design) l.rows;
  room : IsRoom (parts_of l.design) l.room;
  hits : AreColumnsLong l.design l.part (raw_up l.design l.part l.lines.columns.items) l.room.hits;
  cells : IsTileRoom (parts_of l.design) l.cells;
  bound : AreBoundBy l.design l.part l.b (raw_along l.design l.part l.lines.picks.items) (raw_up l.design l.part l.lines.columns.items) l.cells;
}
