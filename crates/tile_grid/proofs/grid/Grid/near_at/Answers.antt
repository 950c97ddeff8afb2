use Rattle.std.proofs.Common.{◌<◌, ◌*◌, ◌%◌, ◌/◌, ℕ, List, Bool, false, length, get_or, count_by, ap, subst, sym, refl, ◌∙◌, arith}
use Rattle.tile_grid.specs.Tiles.{across, down}
use Rattle.tile_grid.specs.inner.Tables.{IsCrossedAt}
use Rattle.tile_grid.proofs.Kept.{columns_of, rows_of, column_itself, row_itself, near_found, read_columns, read_rows, read_sum}
use Rattle.tile_grid.proofs.lemmas.Tiles.{column_there, row_there, tiles_few}
use Rattle.tile_grid.proofs.grid.Grid.near_at.Goals as goal

pub near_columns-columns-requires : goal.near_columns-columns-requires
near_columns-columns-requires c =
    subst (λ (n : ℕ). c.args.tile % n < across c.args.self.now) (sym c.across-across.ensures.count) (column_there c.args.self.now c.args.tile c.across-across.ensures.grid)

pub near_rows-rows-requires : goal.near_rows-rows-requires
near_rows-rows-requires c =
    subst (λ (n : ℕ). c.args.tile / n < down c.args.self.now) (sym c.across-across.ensures.count) (row_there c.args.self.now c.args.tile c.across-across.ensures.grid c.requires.tile)

pub nth_crossed-requires-clause-few : goal.nth_crossed-requires-clause-few
nth_crossed-requires-clause-few c =
    subst (λ (n : ℕ). n < 4294967296)
    (sym (ap (λ n. n * length c.near_rows-rows.result.now) c.near_columns-columns.ensures.len ∙ ap (λ n. across c.args.self.now * n) c.near_rows-rows.ensures.len))
    (let few = tiles_few c.args.self.now c.across-across.ensures.grid in omega arith)

pub nth_crossed-requires-clause-column : goal.nth_crossed-requires-clause-column
nth_crossed-requires-clause-column c =
    ap (λ row. get_or row (c.args.tile % c.across-across.result) false) (read_columns c.args.self.now c.args.tile c.across-across.result c.near_columns-columns.result.now c.across-across.ensures.count c.near_columns-columns.ensures.row)
    ∙ ap (λ n. get_or (columns_of c.args.self.now c.args.tile) (c.args.tile % n) false) c.across-across.ensures.count ∙ column_itself c.args.self.now c.args.tile c.across-across.ensures.grid

pub nth_crossed-requires-clause-row : goal.nth_crossed-requires-clause-row
nth_crossed-requires-clause-row c =
    ap (λ row. get_or row (c.args.tile / c.across-across.result) false) (read_rows c.args.self.now c.args.tile c.across-across.result c.near_rows-rows.result.now c.across-across.ensures.count c.near_rows-rows.ensures.row)
    ∙ ap (λ n. get_or (rows_of c.args.self.now c.args.tile) (c.args.tile / n) false) c.across-across.ensures.count ∙ row_itself c.args.self.now c.args.tile c.across-across.ensures.grid c.requires.tile

pub nth_crossed-requires-clause-k : goal.nth_crossed-requires-clause-k
nth_crossed-requires-clause-k c =
    let sum = read_sum c.args.self.now c.args.tile c.across-across.result (count_by (λ b. b) c.near_columns-columns.result.now) (count_by (λ b. b) c.near_rows-rows.result.now)
    c.near_columns-columns.result.now c.near_rows-rows.result.now c.across-across.ensures.grid c.requires.tile c.across-across.ensures.count c.near_columns-columns.ensures.row c.near_rows-rows.ensures.row refl refl in
    omega (arith, sum, c.requires.k)

pub returns : goal.returns
returns c =
    let grid = c.args.self.now in
    let found = c.nth_crossed.ensures in
    near_found grid c.args.tile c.args.k c.nth_crossed.result c.across-across.ensures.grid c.requires.tile
    (subst (λ (n : ℕ). IsCrossedAt (columns_of grid c.args.tile) (rows_of grid c.args.tile) (c.args.tile % n) (c.args.tile / n) c.args.k c.nth_crossed.result) c.across-across.ensures.count
    (subst (λ (rows : List Bool). IsCrossedAt (columns_of grid c.args.tile) rows (c.args.tile % c.across-across.result) (c.args.tile / c.across-across.result) c.args.k c.nth_crossed.result)
    (read_rows grid c.args.tile c.across-across.result c.near_rows-rows.result.now c.across-across.ensures.count c.near_rows-rows.ensures.row)
    (subst (λ (columns : List Bool). IsCrossedAt columns c.near_rows-rows.result.now (c.args.tile % c.across-across.result) (c.args.tile / c.across-across.result) c.args.k c.nth_crossed.result)
    (read_columns grid c.args.tile c.across-across.result c.near_columns-columns.result.now c.across-across.ensures.count c.near_columns-columns.ensures.row) found)))
