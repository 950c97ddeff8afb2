use Rattle.std.proofs.Common.{◌<◌, ◌%◌, ◌/◌, ℕ, subst, sym, arith}
use Rattle.mill_base.proofs.lemmas.Belows.{count_few}
use Rattle.tile_grid.specs.Near.{near}
use Rattle.tile_grid.specs.Tiles.{tiles, across, down}
use Rattle.tile_grid.proofs.Kept.{read_sum}
use Rattle.tile_grid.proofs.lemmas.Tiles.{column_there, row_there, tiles_few}
use Rattle.tile_grid.proofs.grid.Grid.near_count.Goals as goal

pub near_columns-columns-requires : goal.near_columns-columns-requires
near_columns-columns-requires c =
    subst (λ (n : ℕ). c.args.tile % n < across c.args.self.now) (sym c.across-across.ensures.count) (column_there c.args.self.now c.args.tile c.across-across.ensures.grid)

pub near_rows-rows-requires : goal.near_rows-rows-requires
near_rows-rows-requires c =
    subst (λ (n : ℕ). c.args.tile / n < down c.args.self.now) (sym c.across-across.ensures.count) (row_there c.args.self.now c.args.tile c.across-across.ensures.grid c.requires)

pub overflow_add-result : goal.overflow_add-result
overflow_add-result c =
    let sum = read_sum c.args.self.now c.args.tile c.across-across.result c.count.result c.count-2.result c.near_columns-columns.result.now c.near_rows-rows.result.now c.across-across.ensures.grid c.requires
    c.across-across.ensures.count c.near_columns-columns.ensures.row c.near_rows-rows.ensures.row c.count.ensures c.count-2.ensures in
    let few = tiles_few c.args.self.now c.across-across.ensures.grid in
    let less = count_few (near c.args.self.now c.args.tile) (tiles c.args.self.now) in
    omega (arith, sum, few, less)

pub overflow_sub-result : goal.overflow_sub-result
overflow_sub-result c =
    let sum = read_sum c.args.self.now c.args.tile c.across-across.result c.count.result c.count-2.result c.near_columns-columns.result.now c.near_rows-rows.result.now c.across-across.ensures.grid c.requires
    c.across-across.ensures.count c.near_columns-columns.ensures.row c.near_rows-rows.ensures.row c.count.ensures c.count-2.ensures in
    omega (arith, sum)

pub returns : goal.returns
returns c =
    let sum = read_sum c.args.self.now c.args.tile c.across-across.result c.count.result c.count-2.result c.near_columns-columns.result.now c.near_rows-rows.result.now c.across-across.ensures.grid c.requires
    c.across-across.ensures.count c.near_columns-columns.ensures.row c.near_rows-rows.ensures.row c.count.ensures c.count-2.ensures in
    omega (arith, sum)
