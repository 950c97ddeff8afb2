use Rattle.std.proofs.Common.{◌≡◌, ◌+◌, ◌<◌, ℕ, List, Bool, length, Option, Some, None, filter_map, ap, sym, subst, ◌∙◌, arith}
use Rattle.mill_base.proofs.lemmas.FirstAnswers.{none_more, first_here}
use Rattle.mill_base.proofs.lemmas.Lines.{length-line_by}
use Rattle.point_paper.specs.Papers.{bit_cell}
use Rattle.draft_model.specs.Floats.{warp_float}
use Rattle.draft_model.proofs.FirstFloats.{warp_told}
use Rattle.draft_model.proofs.first_float.first_warp.Goals as goal

pub first_long-run-requires-clause-line : goal.first_long-run-requires-clause-line
first_long-run-requires-clause-line c =
    let some = c.requires.fits.picks.0 in
    let high = c.requires.bits.picks in
    let long = length-line_by (length c.args.bits.now.rows) (λ p. bit_cell c.args.bits.now c.column.result p) in
    omega (arith, some, high, long)

pub returns-in-Some : goal.returns-in-Some
returns-in-Some c =
    sym (first_here (warp_float c.args.design.now c.args.bits.now) c.loop-end.end (length c.args.design.now.tie.ends) c.in-Some.float c.loop-end.invariant
    (warp_told c.args.design.now c.args.bits.now c.loop-end.end c.column.result c.first_long-run.result c.told.result c.column.ensures.column c.first_long-run.ensures.first c.told.ensures ∙ c.in-Some.is)
    (subst (λ n. c.loop-end.end < n) c.ends-end-end.ensures.count c.loop-end-test.true))

pub loop-end-preserved : goal.loop-end-preserved
loop-end-preserved c =
    none_more (warp_float c.args.design.now c.args.bits.now) c.loop-end.end c.loop-end.invariant
    (warp_told c.args.design.now c.args.bits.now c.loop-end.end c.column.result c.first_long-run.result c.told.result c.column.ensures.column c.first_long-run.ensures.first c.told.ensures ∙ c.in_default.is)
