use Rattle.std.proofs.Common.{◌≡◌, ◌+◌, ◌<◌, ℕ, List, Bool, false, length, get_or, slice_index, Option, Some, None, filter_map, ap, sym, subst, ◌∙◌, arith}
use Rattle.mill_base.proofs.lemmas.FirstAnswers.{none_more, first_here}
use Rattle.mill_base.proofs.lemmas.Lines.{length-line_by}
use Rattle.draft_model.specs.Floats.{weft_float}
use Rattle.draft_model.proofs.FirstFloats.{weft_told}
use Rattle.draft_model.proofs.first_float.first_weft.Goals as goal

pub first_long-run-requires-clause-line : goal.first_long-run-requires-clause-line
first_long-run-requires-clause-line c =
    let some = c.requires.fits.ends.0 in
    let long = length-line_by (length c.args.design.now.tie.ends) (λ e. get_or c.row.result.now (slice_index c.args.design.now.tie.ends e) false) in
    omega (arith, some, long)

pub returns-in-Some : goal.returns-in-Some
returns-in-Some c =
    sym (first_here (weft_float c.args.design.now c.args.bits.now) c.loop-pick.pick (length c.args.bits.now.rows) c.in-Some.float c.loop-pick.invariant
    (weft_told c.args.design.now c.args.bits.now c.loop-pick.pick c.row.result.now c.first_long-run.result c.told.result c.row.ensures.row c.first_long-run.ensures.first c.told.ensures ∙ c.in-Some.is)
    (subst (λ n. c.loop-pick.pick < n) (ap (λ s. s.picks) c.size-pick-end.ensures.size) c.loop-pick-test.true))

pub loop-pick-preserved : goal.loop-pick-preserved
loop-pick-preserved c =
    none_more (weft_float c.args.design.now c.args.bits.now) c.loop-pick.pick c.loop-pick.invariant
    (weft_told c.args.design.now c.args.bits.now c.loop-pick.pick c.row.result.now c.first_long-run.result c.told.result c.row.ensures.row c.first_long-run.ensures.first c.told.ensures ∙ c.in_default.is)
