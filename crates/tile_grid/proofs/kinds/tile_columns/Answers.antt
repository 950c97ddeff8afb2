use Rattle.std.proofs.Common.{◌<◌, ◌/◌, ℕ, length, ap, ◌∙◌, arith}
use Rattle.std.specs.Prelude.{slice_index}
use Rattle.mill_base.proofs.lemmas.Lines.{length-line_by}
use Rattle.tile_grid.specs.Tiles.{tiles_along}
use Rattle.tile_grid.proofs.lemmas.Tiles.{covered}
use Rattle.tile_grid.proofs.KindLines.{kind_at, found_table}
use Rattle.tile_grid.proofs.kinds.tile_columns.Goals as goal

pub walk-requires-clause-some : goal.walk-requires-clause-some
walk-requires-clause-some c =
    let long = ap length (c.deref.ensures.value ∙ c.in_ok-kinds.ensures) ∙ length-line_by (length c.args.columns_of_ends.now) (λ e. slice_index c.args.columns_of_ends.now e / c.args.side) in
    omega (arith, long, c.requires.ends.0)

pub walk-requires-clause-few : goal.walk-requires-clause-few
walk-requires-clause-few c =
    let long = ap length (c.deref.ensures.value ∙ c.in_ok-kinds.ensures) ∙ length-line_by (length c.args.columns_of_ends.now) (λ e. slice_index c.args.columns_of_ends.now e / c.args.side) in
    omega (arith, long, c.requires.ends.1)

pub walk-requires-clause-there : goal.walk-requires-clause-there
walk-requires-clause-there c x h =
    let are = c.deref.ensures.value ∙ c.in_ok-kinds.ensures in
    let kind = λ (e : ℕ). slice_index c.args.columns_of_ends.now e / c.args.side in
    let low : x < length c.args.columns_of_ends.now = let long = ap length are ∙ length-line_by (length c.args.columns_of_ends.now) kind in omega (arith, long, h) in
    rw (kind_at c.deref.result.now (length c.args.columns_of_ends.now) kind are x low, c.tiles_along.ensures)
    (covered c.args.columns c.args.side (slice_index c.args.columns_of_ends.now x) (let some = c.requires.side.0 in omega arith) (c.requires.there x 0 low))

pub returns : goal.returns
returns c =
    found_table c.walk.result c.deref.result.now (length c.args.columns_of_ends.now) c.args.limit c.tiles_along.result (tiles_along c.args.columns c.args.side)
    (λ e. slice_index c.args.columns_of_ends.now e / c.args.side) (c.deref.ensures.value ∙ c.in_ok-kinds.ensures) c.tiles_along.ensures c.walk.ensures
