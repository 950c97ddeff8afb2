use Rattle.std.proofs.Common.{◌≡◌, length, count_by}
use Rattle.studio_core.specs.Cores.{AreFlags}
use Rattle.studio_core.specs.inner.Rooms.{AreRooms}
use Rattle.studio_core.proofs.settling.check_tiles.Given as goal

abbrev pub invariant-loop-tile : goal.invariant-loop-tile
invariant-loop-tile l = record {
  long_check : length l.check ≡ length l.initial.check;
  long_flags : length l.flags ≡ length l.initial.flags;
  right : AreFlags l.design l.bits l.check l.flags;
  rooms : AreRooms l.design l.rooms;
}

abbrev pub decreases-loop-tile : goal.decreases-loop-tile
decreases-loop-tile l = count_by (λ b. b) l.check
