use Rattle.std.proofs.Common.{◌≡◌, sym, subst}
use Rattle.tile_rebuild.specs.Tiles.{parts_of}
use Rattle.studio_core.specs.Cores.{CoreValue}
use Rattle.studio_core.proofs.Cores.{bound_core, rooms_row}
use Rattle.studio_core.proofs.tile_core.Core.give_bind.Goals as goal

pub invariant_of-self : goal.invariant_of-self
invariant_of-self g c =
    let done = c.args.done.now in
    let new = c.install_cells.new in
    let put = c.install_cells.ensures in
    record {
      is_core = bound_core _ done new.bits new.bind c.saturating_add-self-inside.result c.self.invariant.is_core (subst (λ (core : CoreValue). done.parts ≡ parts_of core.design) (sym c.self.view_is) c.requires.of) c.tile-tile.ensures.right
          (c.agrees.ensures.lines.0 c.if-not-agrees.false) put.cells put.whole put.bind;
      of_grid = c.self.invariant.of_grid;
      for_rooms = rooms_row c.self.inside.design c.self.inside.rooms new.row c.self.invariant.for_rooms put.row;
    }
