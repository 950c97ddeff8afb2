use Rattle.std.proofs.Common.{◌≡◌, sym, ap, subst, ◌<◌, arith}
use Rattle.std.specs.Prelude.{All, length}
use Rattle.version_journal.specs.Entries.{Kept}
use Rattle.version_journal.specs.declared.entry.Reply.TheVariants.{Painted}
use Rattle.tile_rebuild.specs.Tiles.{grid_of}
use Rattle.studio_core.specs.Cores.{CoreValue, entry_by}
use Rattle.studio_core.proofs.Central.{IsLocal}
use Rattle.studio_core.proofs.Cores.{painted_core, rooms_sets}
use Rattle.studio_core.proofs.tile_core.Core.paint.Goals as goal

pub invariant_of-self : goal.invariant_of-self
invariant_of-self c =
    let design = c.self.inside.design in
    let is = c.self.invariant.is_core in
    let act = c.args.act.now in
    let new = c.paint_act.new in
    let done = c.paint_act.ensures in
    let laws : IsLocal design = record {
      cells = λ tile one other one_is other_is agree. c.near_tiles_decide_a_tile.ensures.bound design tile one other is.tied is.fits one_is other_is agree;
      flag = λ tile one other one_is other_is agree. c.near_tiles_decide_a_tile.ensures.flag design tile one other is.tied is.fits one_is other_is agree;
      symmetric = λ t u. c.nearness_goes_both_ways.ensures.symmetric (grid_of design) t u;
    } in
    record {
      is_core = painted_core _ act new.paper (entry_by c.args.shift c.args.painter c.args.number Painted) c.push.new.self.entries c.push.new.self.spare new.bind new.check is laws
          (subst (λ (core : CoreValue). act.size ≡ core.design.size) (sym c.self.view_is) c.requires.size) done.spans
          (subst (λ (core : CoreValue). All (λ span. span.colour < length core.design.book) act.spans) (sym c.self.view_is) c.requires.colours)
          done.paper (ap (λ (k : Kept). k.entries) c.push.ensures)
          (let room : 0 < c.self.inside.journal.spare = subst (λ (core : CoreValue). 0 < core.spare) (sym c.self.view_is) c.requires.spare in
          let left = ap (λ (k : Kept). k.spare) c.push.ensures in
          omega (arith, room, left)) done.lengths.2 done.lengths.3 done.bind done.check;
      of_grid = c.self.invariant.of_grid;
      for_rooms = rooms_sets c.self.inside.design c.self.inside.rooms new.touched new.near c.self.invariant.for_rooms done.lengths.0 done.lengths.1;
    }
