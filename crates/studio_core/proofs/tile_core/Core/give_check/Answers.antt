use Rattle.std.proofs.Common.{◌≡◌, false, set, sym, ap, subst, ◌∙◌}
use Rattle.tile_rebuild.specs.Tiles.{grid_of, parts_of}
use Rattle.studio_core.specs.Cores.{CoreValue}
use Rattle.studio_core.proofs.Central.{IsLocal}
use Rattle.studio_core.proofs.Cores.{clear_of, flag_core, rooms_sets}
use Rattle.studio_core.proofs.tile_core.Core.give_check.Goals as goal

pub invariant_of-self-2 : goal.invariant_of-self-2
invariant_of-self-2 c =
    let design = c.self.inside.design in
    let is = c.self.invariant.is_core in
    let done = c.args.done.now in
    let laws : IsLocal design = record {
      cells = λ tile one other one_is other_is agree. c.near_tiles_decide_a_tile.ensures.bound design tile one other is.tied is.fits one_is other_is agree;
      flag = λ tile one other one_is other_is agree. c.near_tiles_decide_a_tile.ensures.flag design tile one other is.tied is.fits one_is other_is agree;
      symmetric = λ t u. c.nearness_goes_both_ways.ensures.symmetric (grid_of design) t u;
    } in
    record {
      is_core = flag_core _ done c.clear.new.self c.set.new.self c.saturating_add-self-inside.result is laws (subst (λ (core : CoreValue). done.parts ≡ parts_of core.design) (sym c.self.view_is) c.requires.of) c.tile-tile.ensures.right
          (clear_of design c.self.inside.grid c.tile-tile.result done.tile c.self.inside.bind c.self.invariant.of_grid c.tile-tile.ensures.tile (c.is_near_clear.ensures.clear.0 c.if-not-is_near_clear.false))
          (c.agrees.ensures.0 c.if-not-agrees.false)
          (c.clear.ensures ∙ ap (λ n. set c.self.inside.check n false) c.tile-tile.ensures.tile)
          (c.set.ensures ∙ ap (λ n. set c.self.inside.flags n c.is_long.result) c.tile-tile.ensures.tile ∙ ap (set c.self.inside.flags done.tile) c.is_long.ensures);
      of_grid = c.self.invariant.of_grid;
      for_rooms = rooms_sets design c.self.inside.rooms c.self.inside.rooms.touched c.is_near_clear.new.near c.self.invariant.for_rooms c.self.invariant.for_rooms.for_touched
          (c.is_near_clear.ensures.near ∙ c.self.invariant.for_rooms.for_near);
    }
