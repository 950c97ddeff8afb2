use Rattle.std.proofs.Common.{◌≡◌, ◌+◌, ◌*◌}
use Rattle.draft_model.specs.Cloths.{raw_cell}
use Rattle.tile_rebuild.specs.Tiles.{parts_of}
use Rattle.tile_rebuild.specs.Wholes.{IsWholeRoom}
use Rattle.tile_rebuild.specs.inner.Passes.{HasCells}
use Rattle.tile_rebuild.proofs.whole.read_raw.Given as goal

abbrev pub invariant-loop-pick : goal.invariant-loop-pick
invariant-loop-pick g l = record {
  room : IsWholeRoom (parts_of l.design) l.room;
  raw : HasCells l.design l.pick (raw_cell l.design.book l.paper) l.room.raw;
  steps : l.steps ≡ l.fn.steps + l.pick * l.design.size.columns;
}
