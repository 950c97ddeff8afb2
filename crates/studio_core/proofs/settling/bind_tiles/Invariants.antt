use Rattle.std.proofs.Common.{◌≡◌, ◌+◌, ◌*◌, ◌≤◌, length, count_by}
use Rattle.draft_model.specs.Designs.{IsBitsOf}
use Rattle.studio_core.specs.Cores.{AreCells}
use Rattle.studio_core.specs.inner.Rooms.{AreRooms}
use Rattle.studio_core.proofs.settling.bind_tiles.Given as goal

abbrev pub invariant-loop-tile : goal.invariant-loop-tile
invariant-loop-tile g l = record {
  long : length l.bind ≡ length l.initial.bind;
  of_bits : IsBitsOf l.design l.bits;
  cells : AreCells l.design l.paper l.bits l.bind;
  rooms : AreRooms l.design l.rooms;
  later : l.initial.steps ≤ l.steps;
  most : l.steps + count_by (λ b. b) l.bind * (l.design.tile * (l.design.size.columns + l.design.size.picks))
      ≤ l.initial.steps + count_by (λ b. b) l.initial.bind * (l.design.tile * (l.design.size.columns + l.design.size.picks));
}

abbrev pub decreases-loop-tile : goal.decreases-loop-tile
decreases-loop-tile g l = count_by (λ b. b) l.bind
