use Rattle.std.proofs.Common.{◌≡◌, length, Option, filter_map, sym, subst, ◌∙◌}
use Rattle.std.specs.Prelude.{IfOk}
use Rattle.std.specs.List.{range_with_len}
use Rattle.mill_base.proofs.lemmas.FirstAnswers.{first_of_left}
use Rattle.draft_model.specs.Floats.{first_float, weft_float, warp_float}
use Rattle.draft_model.specs.declared.float_run.FloatRun.{FloatRun}
use Rattle.draft_model.proofs.FirstFloats.{no_left}
use Rattle.draft_model.proofs.first_float.find_float.Goals as goal

pub returns-in-Some : goal.returns-in-Some
unfolding first_float
returns-in-Some c = record {
  first = sym (first_of_left
      (filter_map (weft_float c.args.design.now c.args.bits.now) (range_with_len 0 (length c.args.bits.now.rows)))
      (filter_map (warp_float c.args.design.now c.args.bits.now) (range_with_len 0 (length c.args.design.now.tie.ends)))
      c.in-Some.float (sym c.in_ok-float.ensures ∙ c.in-Some.is));
}

pub returns : goal.returns
unfolding first_float
returns c = record {
  first = subst (λ (first : Option FloatRun). IfOk c.find_warp.result (λ float. float ≡ first))
      (sym (no_left
      (filter_map (weft_float c.args.design.now c.args.bits.now) (range_with_len 0 (length c.args.bits.now.rows)))
      (filter_map (warp_float c.args.design.now c.args.bits.now) (range_with_len 0 (length c.args.design.now.tie.ends)))
      (sym c.in_ok-float.ensures ∙ c.in_default.is)))
      c.find_warp.ensures;
}
