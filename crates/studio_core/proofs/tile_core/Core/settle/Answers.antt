use Rattle.studio_core.proofs.Cores.{settled_core}
use Rattle.studio_core.proofs.tile_core.Core.settle.Goals as goal

pub invariant_of-self : goal.invariant_of-self
invariant_of-self g c =
    let new = c.settle_all.new in
    let all = c.settle_all.ensures in
    record {
      is_core = settled_core _ new.bits new.bind new.check new.flags c.self.invariant.is_core all.bound all.central all.lengths.0 all.lengths.1 all.lengths.2;
      of_grid = c.self.invariant.of_grid;
      for_rooms = all.rooms;
    }
