use Rattle.std.proofs.Common.{sym, ap, ◌∙◌}
use Rattle.mill_base.specs.Grids.{GridCells}
use Rattle.tile_rebuild.specs.inner.Passes.{grid_bound, grid_long}
use Rattle.tile_rebuild.proofs.lemmas.Passes.{marks_moved, one_more_row}
use Rattle.tile_rebuild.proofs.whole.bind_picks.Goals as goal

pub bind_pick-requires-clause-long : goal.bind_pick-requires-clause-long
bind_pick-requires-clause-long c = λ x h.
    let design = c.args.design.now in
    let pick = c.loop-pick.pick in
    let room = c.loop-pick.room in
    let old = c.args.room.now in
    marks_moved design room.raw old.raw room.long old.long c.mark_pick.new.room.columns pick c.mark_pick.ensures.columns c.loop-pick.invariant.raw c.loop-pick.invariant.long x h
    (c.requires.ends x pick h c.loop-pick-test.true)
    ∙ ap (λ (g : GridCells). grid_long design g x pick) (sym (c.mark_pick.ensures.raw ∙ c.loop-pick.invariant.raw))

pub loop-pick-preserved : goal.loop-pick-preserved
loop-pick-preserved c =
    let design = c.args.design.now in
    let pick = c.loop-pick.pick in
    let same = c.mark_pick.ensures.raw ∙ c.loop-pick.invariant.raw in
    record {
      rows = c.bind_pick.ensures.rows;
      room = c.mark_pick.ensures.room;
      raw = same;
      long = c.mark_pick.ensures.long ∙ c.loop-pick.invariant.long;
      bits = c.bind_pick.ensures.bits;
      bound = one_more_row design.size.columns c.loop-pick.bits.rows c.bind_pick.new.bits.rows pick (grid_bound design c.args.room.now.raw)
          (λ x h. c.bind_pick.ensures.here x h ∙ ap (λ (g : GridCells). grid_bound design g x pick) same) c.bind_pick.ensures.others c.loop-pick.invariant.bound;
    }
