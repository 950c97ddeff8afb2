use Rattle.std.proofs.Common.{◌<◌, ap, sym, ◌∙◌, subst, arith}
use Rattle.mill_base.specs.Grids.{GridCells, grid_cell}
use Rattle.tile_grid.proofs.lemmas.Tiles.{tiles_few}
use Rattle.tile_rebuild.specs.Tiles.{grid_of}
use Rattle.tile_rebuild.proofs.lemmas.Designs.{grid_there}
use Rattle.tile_rebuild.proofs.lemmas.Flags.{flags_are}
use Rattle.tile_rebuild.proofs.lemmas.Passes.{grid_long_is}
use Rattle.tile_rebuild.proofs.some_tiles.check_some.Goals as goal

pub take_flags-requires-clause-few : goal.take_flags-requires-clause-few
take_flags-requires-clause-few c = let few = tiles_few (grid_of c.args.design.now) (grid_there c.args.design.now c.requires.fits) in omega (arith, c.requires.tiles)

pub returns-clause-flags : goal.returns-clause-flags
returns-clause-flags c = λ tile h asked.
    let design = c.args.design.now in
    let bits = c.args.bits.now in
    let raw = c.mark_some_columns.new.room.raw in
    c.take_flags.ensures.flags tile asked
    ∙ c.find_long.ensures.found c.args.tiles.now c.find_lines.new.columns tile c.find_lines.ensures.lines c.mark_some_columns.ensures.ends h asked
    ∙ flags_are design bits raw tile
    (λ x p hx hp. grid_long_is design bits raw x p c.requires.fits c.requires.bits
    (λ paper column pick hc hr low. c.two_lines_decide_a_cell.ensures.long design paper column pick c.ends.ensures.tie (subst (λ n. column < n) (sym c.requires.fits.tie) hc) hr low)
    (λ k y hk hy. ap (λ (g : GridCells). grid_cell g k y) c.mark_some_columns.ensures.raw ∙ c.copy_bits.ensures.raw k y hk hy) hx hp)
