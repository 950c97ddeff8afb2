use Rattle.std.proofs.Common.{◌<◌, length, ap, sym, subst, ◌∙◌}
use Rattle.mill_base.proofs.lemmas.FirstAnswers.{none_more, first_here}
use Rattle.cloth_floats.specs.Floats.{first_long_of}
use Rattle.draft_model.specs.Floats.{weft_float}
use Rattle.draft_model.proofs.FirstFloats.{weft_told, weft_none}
use Rattle.draft_model.proofs.first_float.find_weft.Goals as goal
use Rattle.draft_model.proofs.first_float.find_weft.Goals.{then-is_long_somewhere+in_default, else-is_long_somewhere}

pub returns-in-Some : goal.returns-in-Some
returns-in-Some c =
    let design = c.args.design.now in
    let bits = c.args.bits.now in
    sym (first_here (weft_float design bits) c.loop-pick.pick (length bits.rows) c.in-Some.float c.loop-pick.invariant.none
    (weft_told design bits c.loop-pick.pick c.row.result.now c.first_long-run.result c.told.result c.row.ensures.row
    (c.first_long-run.ensures.first ∙ ap (λ xs. first_long_of xs design.weft_back design.weft_face) c.lay.ensures.line) c.told.ensures ∙ c.in-Some.is)
    (subst (λ n. c.loop-pick.pick < n) (ap (λ s. s.picks) c.size-pick-end.ensures.size) c.loop-pick-test.true))

pub loop-pick-preserved : goal.loop-pick-preserved
loop-pick-preserved c =
    let design = c.args.design.now in
    let bits = c.args.bits.now in
    let pick = c.loop-pick.pick in
    record {
      none = none_more (weft_float design bits) pick c.loop-pick.invariant.none
          (elim c.if-is_long_somewhere.branch [
            | then-is_long_somewhere+in_default w ↦
                weft_told design bits pick c.row.result.now w.first_long-run.result w.told.result c.row.ensures.row
                (w.first_long-run.ensures.first ∙ ap (λ xs. first_long_of xs design.weft_back design.weft_face) c.lay.ensures.line) w.told.ensures ∙ w.in_default.is
            | else-is_long_somewhere w ↦
                weft_none design bits pick c.row.result.now c.lay.new.ends c.row.ensures.row c.lay.ensures.line (c.is_long_somewhere.ensures.none w.if-is_long_somewhere.false)
          ]);
      ends = c.lay.ensures.len;
      long = c.is_long_somewhere.ensures.len ∙ c.lay.ensures.len;
    }
