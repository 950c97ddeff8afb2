use Rattle.std.proofs.Common.{◌-◌, ◌*◌, ◌/◌, ◌%◌, ◌<◌, min, ap, ◌∙◌, arith}
use Rattle.tile_grid.proofs.lemmas.Tiles.{first_column, first_pick}
use Rattle.tile_rebuild.specs.Tiles.{grid_of, part_at}
use Rattle.tile_rebuild.proofs.lemmas.Designs.{grid_there, part_by}
use Rattle.tile_rebuild.proofs.part.part_of.Goals as goal

pub overflow_mul-column : goal.overflow_mul-column
overflow_mul-column c =
    rw c.tiles_along-across.ensures (let h = first_column (grid_of c.args.design.now) c.args.tile (grid_there c.args.design.now c.requires.fits) in omega (arith, h, c.requires.fits.columns.1))

pub overflow_mul-pick : goal.overflow_mul-pick
overflow_mul-pick c =
    rw c.tiles_along-across.ensures (let h = first_pick (grid_of c.args.design.now) c.args.tile (grid_there c.args.design.now c.requires.fits) c.requires.tile in omega (arith, h, c.requires.fits.picks.1))

pub overflow_sub-design : goal.overflow_sub-design
overflow_sub-design c =
    rw c.tiles_along-across.ensures (let h = first_column (grid_of c.args.design.now) c.args.tile (grid_there c.args.design.now c.requires.fits) in omega (arith, h))

pub overflow_sub-design-2 : goal.overflow_sub-design-2
overflow_sub-design-2 c =
    rw c.tiles_along-across.ensures (let h = first_pick (grid_of c.args.design.now) c.args.tile (grid_there c.args.design.now c.requires.fits) c.requires.tile in omega (arith, h))

pub returns-clause-part : goal.returns-clause-part
unfolding part_at
returns-clause-part c =
    let t = c.args.tile in
    let size = c.args.design.now.size in
    let side = c.args.design.now.tile in
    let n = c.tiles_along-across.ensures in
    part_by _ _ _ _ _ _ _ _ (ap (λ m. t % m * side) n) (ap (λ m. t / m * side) n) (c.min.ensures ∙ ap (λ m. min side (size.columns - t % m * side)) n)
    (c.min-2.ensures ∙ ap (λ m. min side (size.picks - t / m * side)) n)

pub returns-clause-inside : goal.returns-clause-inside
returns-clause-inside c =
    let t = c.args.tile in
    let side = c.args.design.now.tile in
    let is = grid_there c.args.design.now c.requires.fits in
    let wide : t % c.tiles_along-across.result * side < c.args.design.now.size.columns = rw c.tiles_along-across.ensures (first_column (grid_of c.args.design.now) t is) in
    let high : t / c.tiles_along-across.result * side < c.args.design.now.size.picks = rw c.tiles_along-across.ensures (first_pick (grid_of c.args.design.now) t is c.requires.tile) in
    record { columns_limit = c.requires.fits.columns.1; picks_limit = c.requires.fits.picks.1; wide = omega (arith, wide, c.min.ensures); high = omega (arith, high, c.min-2.ensures) }
