use Rattle.std.proofs.Common.{◌||◌, false, get_or, refl, ap, ◌∙◌, arith}
use Rattle.tile_grid.specs.Near.{near}
use Rattle.tile_grid.specs.Tiles.{tiles}
use Rattle.tile_grid.proofs.lemmas.Tiles.{tiles_few}
use Rattle.studio_core.specs.Touches.{near_any}
use Rattle.studio_core.proofs.Walked.{near_more, near_whole}
use Rattle.studio_core.proofs.walking.mark_near.Goals as goal

pub overflow_add-from : goal.overflow_add-from
overflow_add-from c = let h = c.in-Some.ensures.some.within in let k = tiles_few c.args.grid.now c.tiles.ensures.grid in omega arith

pub loop-tile-preserved : goal.loop-tile-preserved
loop-tile-preserved c =
    let old = c.args.set.now in
    let mid = c.loop-tile.set in
    let first = c.in-Some.ensures.some in
    record {
      len = c.mark_near.ensures.len ∙ c.loop-tile.invariant.len;
      bound = (let h = first.within in omega arith);
      tiles = λ u h.
          ap (λ xs. get_or xs u false) c.mark_near.ensures.set ∙ c.a_set_with_near_tiles_has_those_and_no_others.ensures.tiles c.args.grid.now c.in-Some.tile u mid (omega (arith, h, c.loop-tile.invariant.len))
          ∙ ap (λ b. b || near c.args.grid.now c.in-Some.tile u) (c.loop-tile.invariant.tiles u h)
          ∙ near_more c.args.grid.now c.args.of.now c.loop-tile.from c.in-Some.tile u (get_or old u false) first;
    }

pub returns-clause-tiles : goal.returns-clause-tiles
unfolding near_any
returns-clause-tiles c = λ u h.
    c.loop-tile.invariant.tiles u (omega (arith, h, c.requires.set))
    ∙ ap (λ b. get_or c.args.set.now u false || b) (near_whole c.args.grid.now c.args.of.now c.loop-tile.from (tiles c.args.grid.now) u (omega (arith, c.loop-tile.invariant.bound, c.requires.of)) (c.in_default.ensures.none refl))
