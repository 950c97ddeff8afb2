use Rattle.std.proofs.Common.{Bool, List, false, length, get_or, refl, sym, ap, ◌∙◌, arith}
use Rattle.std.proofs.lemmas.List.{get_or-replicate, length-replicate}
use Rattle.tile_rebuild.proofs.lemmas.Passes.{marks_moved}
use Rattle.tile_rebuild.proofs.lemmas.SomeTiles.{long_more, long_skipped}
use Rattle.tile_rebuild.proofs.some_tiles.find_long.Goals as goal

pub overflow_add-from : goal.overflow_add-from
overflow_add-from c =
    let h = c.in-Some.ensures.some.within in
    let few = c.requires.fits.picks in
    omega (arith, c.requires.picks)

pub loop-pick-init : goal.loop-pick-init
loop-pick-init c =
    let n = length c.args.found.now in
    record {
      bound = omega arith;
      room = c.requires.room;
      raw = refl;
      long = refl;
      len = ap length c.fill.ensures ∙ length-replicate n false;
      found = λ tiles columns tile have ends h asked. ap (λ (xs : List Bool). get_or xs tile false) c.fill.ensures ∙ get_or-replicate n tile false false (omega (arith, h, c.requires.found));
    }

pub loop-pick-preserved : goal.loop-pick-preserved
loop-pick-preserved c =
    let design = c.args.design.now in
    let room = c.loop-pick.room in
    let old = c.args.room.now in
    let pick = c.in-Some.pick in
    let first = c.in-Some.ensures.some in
    let columns' = c.mark_pick.new.room.columns in
    let marks = marks_moved design room.raw old.raw room.long old.long columns' pick c.mark_pick.ensures.columns c.loop-pick.invariant.raw c.loop-pick.invariant.long in
    record {
      bound = (let h = first.within in omega arith);
      room = c.mark_pick.ensures.room;
      raw = c.mark_pick.ensures.raw ∙ c.loop-pick.invariant.raw;
      long = c.mark_pick.ensures.long ∙ c.loop-pick.invariant.long;
      len = c.flag_pick.ensures.len ∙ c.loop-pick.invariant.len;
      found = λ tiles columns tile have ends h asked.
          long_more design old.raw old.long tiles columns c.args.picks.now columns' tile c.loop-pick.from pick (get_or c.loop-pick.found tile false) (get_or c.flag_pick.new.flags tile false) have ends asked
          first c.requires.picks marks (c.flag_pick.ensures.flags tile h) (c.loop-pick.invariant.found tiles columns tile have ends h asked);
    }

pub returns-clause-found : goal.returns-clause-found
returns-clause-found c = λ tiles columns tile have ends h asked.
    let design = c.args.design.now in
    c.loop-pick.invariant.found tiles columns tile have ends h asked
    ∙ sym (long_skipped design c.args.room.now.raw tiles columns c.args.picks.now tile c.loop-pick.from design.size.picks have asked
    (omega (arith, c.loop-pick.invariant.bound, c.requires.picks)) (omega arith) (λ i late below. c.in_default.ensures.none refl i late))
