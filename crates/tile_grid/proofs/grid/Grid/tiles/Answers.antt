use Rattle.std.proofs.Common.{subst, arith}
use Rattle.tile_grid.specs.Tiles.{GridValue}
use Rattle.tile_grid.specs.inner.Grids.{IsKept}
use Rattle.tile_grid.proofs.Kept.{kept_tiles}
use Rattle.tile_grid.proofs.lemmas.Tiles.{tiles_few}
use Rattle.tile_grid.proofs.grid.Grid.tiles.Goals as goal

pub overflow_mul-result : goal.overflow_mul-result
overflow_mul-result c =
    let kept = subst (λ (g : GridValue). IsKept g c.self.inside.near_columns c.self.inside.near_rows) c.self.view_is c.self.invariant in
    let few = tiles_few c.args.self.now kept.whole in
    let all = kept_tiles c.args.self.now c.self.inside.near_columns c.self.inside.near_rows c.width.result c.width-2.result kept c.width.ensures.width c.width-2.ensures.width in
    omega (arith, few, all)
