use Rattle.std.proofs.Common.{◌≡◌, ◌+◌, ◌<◌, [], ◌∷◌, ◌∙◌, length, List, sym, ap, subst, arith}
use Rattle.session_file.specs.declared.session.ShiftPlan.{ShiftPlan}
use Rattle.shift_model.specs.Plans.{plan_of, acts_of_painter}
use Rattle.shift_run.specs.inner.Slots.{Slot, painter_slots}
use Rattle.shift_run.specs.inner.Unread.{Does}
use Rattle.shift_run.proofs.InOrder.{does_then}
use Rattle.shift_run.proofs.Slots.{painter_count, painter_more}
use Rattle.shift_run.proofs.unread.do_painter.Goals as goal

pub do_act-requires-clause-room : goal.do_act-requires-clause-room
do_act-requires-clause-room g c =
    let same : length c.acts_of.result.now ≡ length (acts_of_painter (plan_of c.args.session.now c.args.shift) c.args.painter) =
    ap length (c.acts_of.ensures ∙ ap (λ (plan : ShiftPlan). acts_of_painter plan c.args.painter) c.plan_of.ensures) in
    let room : 0 < c.places.unread.core.spare =
    omega (arith, c.places.invariant.does.spare, painter_count c.args.shift c.args.painter c.places.place, c.requires.room, c.places-test.true, same) in
    room

pub places-preserved : goal.places-preserved
places-preserved g c =
    let slot : Slot = record { shift = c.args.shift; painter = c.args.painter; number = c.places.place + 1 } in
    let slots : List Slot = painter_slots c.args.shift c.args.painter c.places.place in
    let one = c.in_ok-do_act.ensures in
    record {
      does = subst (λ (s : List Slot). Does c.args.session.now s c.args.unread.now c.do_act.new.unread) (sym (painter_more c.args.shift c.args.painter c.places.place))
          (does_then c.args.session.now slots (slot ∷ []) c.args.unread.now c.places.unread c.do_act.new.unread c.places.invariant.does one);
      can = one.can;
    }
