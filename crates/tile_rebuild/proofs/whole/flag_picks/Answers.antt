use Rattle.std.proofs.Common.{◌||◌, ℕ, Bool, List, false, length, get_or, refl, sym, ap, ◌∙◌, arith}
use Rattle.std.proofs.lemmas.List.{get_or-replicate, length-replicate}
use Rattle.mill_base.specs.Below.{any_below}
use Rattle.tile_rebuild.specs.inner.Passes.{any_in_pick, grid_long}
use Rattle.tile_rebuild.proofs.lemmas.Flags.{any_next, in_pick_alike}
use Rattle.tile_rebuild.proofs.lemmas.Passes.{marks_moved}
use Rattle.tile_rebuild.proofs.whole.flag_picks.Goals as goal

pub loop-pick-init : goal.loop-pick-init
loop-pick-init c =
    let n = length c.args.flags.now in
    record {
      room = c.requires.room;
      raw = refl;
      long = refl;
      len = ap length c.fill.ensures ∙ length-replicate n false;
      flags = λ tile h. ap (λ (xs : List Bool). get_or xs tile false) c.fill.ensures ∙ get_or-replicate n tile false false (omega (arith, h, c.requires.flags));
    }

pub loop-pick-preserved : goal.loop-pick-preserved
loop-pick-preserved c =
    let design = c.args.design.now in
    let pick = c.loop-pick.pick in
    let room = c.loop-pick.room in
    let old = c.args.room.now in
    let marks = marks_moved design room.raw old.raw room.long old.long c.mark_pick.new.room.columns pick c.mark_pick.ensures.columns c.loop-pick.invariant.raw c.loop-pick.invariant.long in
    record {
      room = c.mark_pick.ensures.room;
      raw = c.mark_pick.ensures.raw ∙ c.loop-pick.invariant.raw;
      long = c.mark_pick.ensures.long ∙ c.loop-pick.invariant.long;
      len = c.flag_pick.ensures.len ∙ c.loop-pick.invariant.len;
      flags = λ tile h.
          let some = λ (p : ℕ). any_in_pick design tile p (λ x. grid_long design c.args.room.now.raw x p) in
          c.flag_pick.ensures.flags tile h
          ∙ ap (λ b. b || any_in_pick design tile pick (λ x. get_or c.mark_pick.new.room.columns x false)) (c.loop-pick.invariant.flags tile h)
          ∙ ap (λ b. any_below some pick || b)
          (in_pick_alike design tile pick (λ x. get_or c.mark_pick.new.room.columns x false) (λ x. grid_long design c.args.room.now.raw x pick)
          (λ x hx. marks x hx (c.requires.ends x pick hx c.loop-pick-test.true)))
          ∙ sym (any_next some pick);
    }
