use Rattle.std.proofs.Common.{arith}
use Rattle.std.proofs.Math.Nat.{suc-mul}
use Rattle.draft_model.specs.Cloths.{raw_cell}
use Rattle.tile_rebuild.proofs.lemmas.Passes.{one_more_row}
use Rattle.tile_rebuild.proofs.whole.read_raw.Goals as goal

pub loop-pick-preserved : goal.loop-pick-preserved
loop-pick-preserved g c =
    let design = c.args.design.now in
    record {
      room = c.read_pick.ensures.room;
      raw = one_more_row design.size.columns c.loop-pick.room.raw.rows c.read_pick.new.room.raw.rows c.loop-pick.pick (raw_cell design.book c.args.paper.now) c.read_pick.ensures.here
          c.read_pick.ensures.others c.loop-pick.invariant.raw;
      steps = omega (arith, c.read_pick.ensures.steps, c.loop-pick.invariant.steps, suc-mul c.loop-pick.pick design.size.columns);
    }
