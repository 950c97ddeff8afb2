use Rattle.std.proofs.Common.{◌≡◌, ◌<◌, ◌≤◌, [], length, get_or, take, List, sym, ap, subst, arith}
use Rattle.std.proofs.lemmas.List.Sums.{sum_by_more_le}
use Rattle.session_file.specs.declared.session.ShiftPlan.{ShiftPlan}
use Rattle.shift_model.specs.Plans.{plan_of}
use Rattle.shift_run.specs.inner.Slots.{Slot, painter_slots, slots_from}
use Rattle.shift_run.specs.inner.Unread.{Does}
use Rattle.shift_run.proofs.InOrder.{does_then}
use Rattle.shift_run.proofs.Slots.{slots_count, slots_taken}
use Rattle.shift_run.proofs.unread.do_acts.Goals as goal

pub do_painter-requires-clause-room : goal.do_painter-requires-clause-room
do_painter-requires-clause-room g c =
    let painters = (plan_of c.args.session.now c.args.shift).painters in
    let p = c.painters.painter in
    let many : length c.plan_of.result.now.painters ≡ length painters = ap (λ (plan : ShiftPlan). length plan.painters) c.plan_of.ensures in
    let there : p < length painters = omega (arith, c.painters-test.true, c.len-painters.ensures, many) in
    let room : length (get_or painters p []) ≤ c.painters.unread.core.spare =
    omega (arith, c.painters.invariant.does.spare, slots_count c.args.shift 0 (take p painters), c.requires.room, sum_by_more_le length painters p [] there) in
    room

pub painters-preserved : goal.painters-preserved
painters-preserved g c =
    let painters = (plan_of c.args.session.now c.args.shift).painters in
    let p = c.painters.painter in
    let many : length c.plan_of.result.now.painters ≡ length painters = ap (λ (plan : ShiftPlan). length plan.painters) c.plan_of.ensures in
    let there : p < length painters = omega (arith, c.painters-test.true, c.len-painters.ensures, many) in
    let one = c.in_ok-do_painter.ensures in
    record {
      does = subst (λ (s : List Slot). Does c.args.session.now s c.args.unread.now c.do_painter.new.unread) (sym (slots_taken c.args.shift painters p there))
          (does_then c.args.session.now (slots_from c.args.shift 0 (take p painters)) (painter_slots c.args.shift p (length (get_or painters p []))) c.args.unread.now c.painters.unread c.do_painter.new.unread
          c.painters.invariant.does one);
      can = one.can;
    }
