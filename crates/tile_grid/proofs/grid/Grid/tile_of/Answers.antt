use Rattle.std.proofs.Common.{◌<◌, ℕ, ap, subst, sym, arith}
use Rattle.tile_grid.specs.Tiles.{GridValue, tiles}
use Rattle.tile_grid.specs.inner.Grids.{IsKept}
use Rattle.tile_grid.proofs.Kept.{kept_tile}
use Rattle.tile_grid.proofs.lemmas.Tiles.{tile_there, tiles_few}
use Rattle.tile_grid.proofs.grid.Grid.tile_of.Goals as goal

pub overflow_mul-result : goal.overflow_mul-result
overflow_mul-result c =
    let kept = subst (λ (g : GridValue). IsKept g c.self.inside.near_columns c.self.inside.near_rows) c.self.view_is c.self.invariant in
    let few = tiles_few c.args.self.now kept.whole in
    let there = tile_there c.args.self.now c.args.column c.args.pick kept.whole c.requires.column c.requires.pick in
    let is = kept_tile c.args.self.now c.self.inside.near_columns c.self.inside.near_rows c.args.column c.args.pick c.width.result c.self.inside.side kept c.width.ensures.width (ap (λ (g : GridValue). g.side) c.self.view_is) in
    omega (arith, few, there, is)

pub overflow_add-result : goal.overflow_add-result
overflow_add-result c =
    let kept = subst (λ (g : GridValue). IsKept g c.self.inside.near_columns c.self.inside.near_rows) c.self.view_is c.self.invariant in
    let few = tiles_few c.args.self.now kept.whole in
    let there = tile_there c.args.self.now c.args.column c.args.pick kept.whole c.requires.column c.requires.pick in
    let is = kept_tile c.args.self.now c.self.inside.near_columns c.self.inside.near_rows c.args.column c.args.pick c.width.result c.self.inside.side kept c.width.ensures.width (ap (λ (g : GridValue). g.side) c.self.view_is) in
    omega (arith, few, there, is)

pub returns-clause-tile : goal.returns-clause-tile
returns-clause-tile c =
    let kept = subst (λ (g : GridValue). IsKept g c.self.inside.near_columns c.self.inside.near_rows) c.self.view_is c.self.invariant in
    kept_tile c.args.self.now c.self.inside.near_columns c.self.inside.near_rows c.args.column c.args.pick c.width.result c.self.inside.side kept c.width.ensures.width (ap (λ (g : GridValue). g.side) c.self.view_is)

pub returns-clause-there : goal.returns-clause-there
returns-clause-there c =
    let kept = subst (λ (g : GridValue). IsKept g c.self.inside.near_columns c.self.inside.near_rows) c.self.view_is c.self.invariant in
    let is = kept_tile c.args.self.now c.self.inside.near_columns c.self.inside.near_rows c.args.column c.args.pick c.width.result c.self.inside.side kept c.width.ensures.width (ap (λ (g : GridValue). g.side) c.self.view_is) in
    subst (λ (n : ℕ). n < tiles c.args.self.now) (sym is) (tile_there c.args.self.now c.args.column c.args.pick kept.whole c.requires.column c.requires.pick)
