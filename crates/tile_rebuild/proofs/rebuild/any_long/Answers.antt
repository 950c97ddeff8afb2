use Rattle.std.proofs.Common.{◌≡◌, sym, ap, subst, ◌∙◌, arith}
use Rattle.mill_base.specs.Below.{any_below}
use Rattle.mill_base.specs.Grids.{GridCells, grid_cell}
use Rattle.mill_base.proofs.lemmas.Belows.{any_here}
use Rattle.tile_rebuild.specs.inner.Cells.{AreColumnsLong, is_long_in}
use Rattle.tile_rebuild.proofs.lemmas.Picks.{none_more, pick_marked}
use Rattle.tile_rebuild.proofs.rebuild.any_long.Goals as goal

pub returns-then-has_true-clause-any : goal.returns-then-has_true-clause-any
returns-then-has_true-clause-any c = λ up columns.
    let design = c.args.design.now in
    let part = c.args.part in
    let b = c.loop-b.b in
    let here = pick_marked design part c.args.picks.now c.loop-b.room.hits c.row.result.now c.mark_pick.new.room.long up b c.row.ensures.row c.mark_pick.ensures.long
    (subst (λ (g : GridCells). AreColumnsLong design part up g) (sym c.loop-b.invariant.hits) columns) c.loop-b-test.true in
    sym (any_here (λ j. any_below (λ a. is_long_in design part (λ k x. grid_cell c.args.picks.now x k) up a j) part.width) part.height b c.loop-b-test.true
    (sym here ∙ sym c.has_true.ensures ∙ c.if-has_true.true))

pub loop-b-preserved : goal.loop-b-preserved
loop-b-preserved c =
    let design = c.args.design.now in
    let part = c.args.part in
    let b = c.loop-b.b in
    record {
      room = c.mark_pick.ensures.room;
      hits = c.mark_pick.ensures.hits ∙ c.loop-b.invariant.hits;
      none = λ up columns.
          let here = pick_marked design part c.args.picks.now c.loop-b.room.hits c.row.result.now c.mark_pick.new.room.long up b c.row.ensures.row c.mark_pick.ensures.long
          (subst (λ (g : GridCells). AreColumnsLong design part up g) (sym c.loop-b.invariant.hits) columns) c.loop-b-test.true in
          none_more (λ j. any_below (λ a. is_long_in design part (λ k x. grid_cell c.args.picks.now x k) up a j) part.width) b
          (c.loop-b.invariant.none up columns) (sym here ∙ sym c.has_true.ensures ∙ c.if-has_true.false);
    }

pub returns-clause-any : goal.returns-clause-any
returns-clause-any c = λ up columns.
    let part = c.args.part in
    let last : c.loop-b.b ≡ part.height = omega (arith, c.loop-b-test.false, c.loop-b.auto.b-end) in
    sym (c.loop-b.invariant.none up columns)
    ∙ ap (λ n. any_below (λ j. any_below (λ a. is_long_in c.args.design.now part (λ k x. grid_cell c.args.picks.now x k) up a j) part.width) n) last
