use Rattle.std.proofs.Common.{◌||◌, false, get_or, ap, ◌∙◌, arith}
use Rattle.studio_core.proofs.Touched.{span_marked}
use Rattle.studio_core.proofs.touching.mark_span.Goals as goal

pub returns-clause-tiles : goal.returns-clause-tiles
returns-clause-tiles c = λ u h.
    c.loop-tile.invariant.tiles u (omega (arith, h, c.requires.set))
    ∙ ap (λ b. get_or c.args.set.now u false || b)
    (span_marked c.args.grid.now c.args.span.now c.tile_of-first.result c.tile_of-last.result c.loop-tile.tile u c.tiles.ensures.grid c.requires.span c.tile_of-first.ensures.tile c.tile_of-last.ensures.tile
    c.loop-tile-test.false c.loop-tile.auto.tile-end)
