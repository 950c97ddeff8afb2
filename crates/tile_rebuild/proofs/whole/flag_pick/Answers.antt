use Rattle.std.proofs.Common.{◌+◌, ◌*◌, ◌/◌, ◌<◌, ◌||◌, Bool, List, true, false, length, get_or, refl, ap, ◌∙◌, arith, length-set}
use Rattle.tile_rebuild.specs.Tiles.{grid_of}
use Rattle.tile_rebuild.proofs.lemmas.Designs.{grid_there}
use Rattle.tile_rebuild.proofs.lemmas.Flags.{flag_last, flag_more, numbers_few, past_column, tile_number}
use Rattle.tile_rebuild.proofs.whole.flag_pick.Goals as goal

pub overflow_mul-first : goal.overflow_mul-first
overflow_mul-first c =
    let fits = c.requires.fits in
    let few = numbers_few (grid_of c.args.design.now) 0 c.args.pick c.tiles_along.result (grid_there c.args.design.now fits) fits.columns.0 c.requires.pick c.tiles_along.ensures in
    let h = few.0 in
    omega arith

pub overflow_add-first : goal.overflow_add-first
overflow_add-first c =
    let fits = c.requires.fits in
    let low : c.in-Some.column < c.args.design.now.size.columns = let h = c.in-Some.ensures.some.within in omega (arith, c.requires.long) in
    let few = numbers_few (grid_of c.args.design.now) c.in-Some.column c.args.pick c.tiles_along.result (grid_there c.args.design.now fits) low c.requires.pick c.tiles_along.ensures in
    let h = few.0 in
    omega arith

pub set-requires : goal.set-requires
set-requires c =
    let fits = c.requires.fits in
    let low : c.in-Some.column < c.args.design.now.size.columns = let h = c.in-Some.ensures.some.within in omega (arith, c.requires.long) in
    let few = numbers_few (grid_of c.args.design.now) c.in-Some.column c.args.pick c.tiles_along.result (grid_there c.args.design.now fits) low c.requires.pick c.tiles_along.ensures in
    let h = few.1 in
    omega (arith, c.loop-column.invariant.len, c.requires.flags)

pub loop-column-preserved : goal.loop-column-preserved
loop-column-preserved c =
    let grid = grid_of c.args.design.now in
    let side = c.args.design.now.tile in
    let column = c.in-Some.column in
    let at = c.args.pick / side * c.tiles_along.result + column / side in
    let next = (column / side + 1) * side in
    let some : 0 < side = let h = c.requires.fits.tile.0 in omega arith in
    record {
      len = ap length c.set.ensures ∙ length-set c.loop-column.flags at true ∙ c.loop-column.invariant.len;
      flags = λ tile h.
          let there : tile < length c.loop-column.flags = omega (arith, h, c.loop-column.invariant.len, c.requires.flags) in
          ap (λ (xs : List Bool). get_or xs tile false) c.set.ensures
          ∙ flag_more grid c.args.long.now c.args.flags.now c.loop-column.flags c.args.pick c.loop-column.from column next at tile c.in-Some.ensures.some (past_column side column some) refl
          (tile_number grid column c.args.pick c.tiles_along.result c.tiles_along.ensures) there (c.loop-column.invariant.flags tile h);
    }

pub returns-clause-flags : goal.returns-clause-flags
returns-clause-flags c = λ tile h.
    c.loop-column.invariant.flags tile h
    ∙ ap (λ b. get_or c.args.flags.now tile false || b)
    (flag_last (grid_of c.args.design.now) c.args.long.now c.args.pick c.loop-column.from c.args.design.now.size.columns tile c.requires.long (c.in_default.ensures.none refl))
