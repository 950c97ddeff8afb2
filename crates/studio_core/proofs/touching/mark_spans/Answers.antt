use Rattle.std.proofs.Common.{◌+◌, ◌||◌, false, drop, get_or, ap, ◌∙◌, arith}
use Rattle.studio_core.specs.inner.Touched.{spans_touch}
use Rattle.studio_core.proofs.Touched.{touch_all, touch_more}
use Rattle.studio_core.proofs.touching.mark_spans.Goals as goal

pub loop-span-preserved : goal.loop-span-preserved
loop-span-preserved c =
    let grid = c.args.grid.now in
    let k = c.loop-span.span-index in
    record {
      len = c.mark_span.ensures.len ∙ c.loop-span.invariant.len;
      tiles = λ u h.
          ap (λ b. b || spans_touch grid (drop (k + 1) c.args.spans.now) u) (c.mark_span.ensures.tiles u (omega (arith, h, c.requires.set)))
          ∙ touch_more grid c.args.spans.now k u (get_or c.loop-span.set u false) (record { column = 0; pick = 0; length = 0; colour = 0 }) c.loop-span-test.true
          ∙ c.loop-span.invariant.tiles u h;
    }

pub returns-clause-tiles : goal.returns-clause-tiles
returns-clause-tiles c = λ u h.
    touch_all c.args.grid.now c.args.spans.now c.loop-span.span-index u (get_or c.loop-span.set u false) c.loop-span-test.false
    ∙ c.loop-span.invariant.tiles u (omega (arith, h, c.requires.set))
