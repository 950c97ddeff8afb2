use Rattle.std.proofs.Common.{◌<◌, ◌||◌, List, false, get_or, sym, ap, subst, ◌∙◌}
use Rattle.point_paper.specs.declared.paper.Span.{Span}
use Rattle.tile_grid.specs.Tiles.{GridValue, tiles}
use Rattle.studio_core.specs.Touches.{near_any}
use Rattle.studio_core.specs.inner.Touched.{spans_touch}
use Rattle.studio_core.proofs.Touched.{bind_by_spans, check_by_spans}
use Rattle.studio_core.proofs.touching.paint_act.Goals as goal

pub returns-clause-bind : goal.returns-clause-bind
returns-clause-bind c = λ u h.
    let grid = c.args.grid.now in
    let before = get_or c.args.bind.now u false in
    c.mark_touched.ensures.bind u (subst (λ (g : GridValue). u < tiles g) (sym c.requires.grid) h)
    ∙ ap (λ (xs : List Span). before || near_any grid (spans_touch grid xs) u) c.spans-spans.ensures.spans
    ∙ ap (λ b. before || b) (bind_by_spans c.args.design.now grid c.args.act.now u c.requires.grid c.requires.size c.spans-spans.ensures.paint)

pub returns-clause-check : goal.returns-clause-check
returns-clause-check c = λ u h.
    let grid = c.args.grid.now in
    let before = get_or c.args.check.now u false in
    c.mark_touched.ensures.check u (subst (λ (g : GridValue). u < tiles g) (sym c.requires.grid) h)
    ∙ ap (λ (xs : List Span). before || near_any grid (near_any grid (spans_touch grid xs)) u) c.spans-spans.ensures.spans
    ∙ ap (λ b. before || b) (check_by_spans c.args.design.now grid c.args.act.now u c.requires.grid c.requires.size c.spans-spans.ensures.paint)
