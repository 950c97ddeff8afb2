use Rattle.std.proofs.Common.{◌<◌, ◌/◌, length, ap, ◌∙◌, arith}
use Rattle.tile_grid.specs.Tiles.{tiles_along}
use Rattle.mill_base.proofs.lemmas.Lines.{length-line_by}
use Rattle.tile_grid.proofs.lemmas.Tiles.{covered}
use Rattle.tile_grid.proofs.KindLines.{kind_at, found_table}
use Rattle.tile_grid.proofs.kinds.tile_rows.Goals as goal

pub walk-requires-clause-some : goal.walk-requires-clause-some
walk-requires-clause-some c =
    let long = ap length (c.deref.ensures.value ∙ c.in_ok-kinds.ensures) ∙ length-line_by c.args.picks (λ p. p / c.args.side) in
    omega (arith, long, c.requires.picks.0)

pub walk-requires-clause-few : goal.walk-requires-clause-few
walk-requires-clause-few c =
    let long = ap length (c.deref.ensures.value ∙ c.in_ok-kinds.ensures) ∙ length-line_by c.args.picks (λ p. p / c.args.side) in
    omega (arith, long, c.requires.picks.1)

pub walk-requires-clause-there : goal.walk-requires-clause-there
walk-requires-clause-there c x h =
    let are = c.deref.ensures.value ∙ c.in_ok-kinds.ensures in
    let low : x < c.args.picks = let long = ap length are ∙ length-line_by c.args.picks (λ p. p / c.args.side) in omega (arith, long, h) in
    rw (kind_at c.deref.result.now c.args.picks (λ p. p / c.args.side) are x low, c.tiles_along.ensures) (covered c.args.picks c.args.side x (let some = c.requires.side.0 in omega arith) low)

pub returns : goal.returns
returns c =
    found_table c.walk.result c.deref.result.now c.args.picks c.args.limit c.tiles_along.result (tiles_along c.args.picks c.args.side)
    (λ p. p / c.args.side) (c.deref.ensures.value ∙ c.in_ok-kinds.ensures) c.tiles_along.ensures c.walk.ensures
