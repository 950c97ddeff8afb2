use Rattle.std.proofs.Common.{◌≡◌, ℕ, Option, List, [], filter_map, slice_get, ap, sym, subst, ◌∙◌, arith}
use Rattle.std.specs.List.{range_with_len}
use Rattle.mill_base.proofs.lemmas.FirstAnswers.{first_here, none_more}
use Rattle.session_rules.specs.declared.fault.SessionFaultKind.{SessionFaultKind}
use Rattle.session_file.specs.Sessions.{foreign_colour, foreign_in, pick_pixels}
use Rattle.session_file.proofs.image.find_foreign.Goals as goal

pub returns-in-Some : goal.returns-in-Some
unfolding foreign_colour
returns-in-Some c =
    let rows : ℕ → Option SessionFaultKind = λ pick. foreign_in c.args.colours pick (pick_pixels c.args.size c.args.pixels.now pick) in
    let here = ap (foreign_in c.args.colours c.loop-pick.pick) (sym c.pick_row.ensures.row) ∙ sym c.in-Some.ensures in
    sym (first_here rows c.loop-pick.pick c.args.size.picks c.in-Some.kind c.loop-pick.invariant here c.loop-pick-test.true)

pub loop-pick-preserved : goal.loop-pick-preserved
loop-pick-preserved c =
    let rows : ℕ → Option SessionFaultKind = λ pick. foreign_in c.args.colours pick (pick_pixels c.args.size c.args.pixels.now pick) in
    let here = ap (foreign_in c.args.colours c.loop-pick.pick) (sym c.pick_row.ensures.row) ∙ sym c.in_default.ensures in
    none_more rows c.loop-pick.pick c.loop-pick.invariant here

pub returns : goal.returns
unfolding foreign_colour
returns c =
    let rows : ℕ → Option SessionFaultKind = λ pick. foreign_in c.args.colours pick (pick_pixels c.args.size c.args.pixels.now pick) in
    let done : c.loop-pick.pick ≡ c.args.size.picks = omega (arith, c.loop-pick-test.false, c.loop-pick.auto.pick-end) in
    sym
    (ap (λ (xs : List SessionFaultKind). slice_get xs 0)
    (subst (λ (n : ℕ). filter_map rows (range_with_len 0 n) ≡ []) done c.loop-pick.invariant))
