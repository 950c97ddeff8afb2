use Rattle.std.proofs.Common.{ℕ, List, ap, subst, ◌∙◌, length}
use Rattle.std.specs.Prelude.{slice_index}
use Rattle.shift_model.specs.Plans.{plan_of}
use Rattle.shift_run.specs.inner.Slots.{AddsSlots, Slot}
use Rattle.shift_run.proofs.Plain.{left_plan}
use Rattle.shift_run.proofs.Counting.{nothing_at}
use Rattle.shift_run.proofs.Working.{did_all, did_none, did_some}
use Rattle.shift_run.proofs.foreman.direct_plain.Goals as goal

pub returns-in_default-clause-directs : goal.returns-in_default-clause-directs
returns-in_default-clause-directs g c =
    did_none c.args.session.now c.args.shift c.args.desk.now c.requires.fits c.requires.shift c.requires.design c.requires.ready c.requires.room

pub returns-in_default-do_missing-clause-directs : goal.returns-in_default-do_missing-clause-directs
returns-in_default-do_missing-clause-directs g c =
    did_some c.args.session.now c.args.shift c.args.desk.now c.do_missing.new.desk c.in-Ok.done.items c.in-Ok.ensures c.in_default-do_missing.ensures.breaks

pub returns-clause-directs : goal.returns-clause-directs
returns-clause-directs g c =
    did_all c.args.session.now c.args.shift c.args.desk.now c.do_missing.new.desk c.in-Ok.done.items c.do_missing.new.done.items c.in-Ok.ensures
    c.in-Ok-do_missing.ensures.works c.in-Ok-do_missing.ensures.whole

pub returns-clause-plain : goal.returns-clause-plain
returns-clause-plain g c done =
    let plan = plan_of c.args.session.now c.args.shift in
    subst (λ (s : List Slot). AddsSlots s c.args.desk.now.core.entries c.do_missing.new.desk.core.entries)
    (left_plan c.args.shift plan c.in-Ok.done.items (λ p. ap (λ (l : List ℕ). slice_index l p) c.in-Ok.ensures ∙ nothing_at (length plan.painters) p))
    c.in-Ok-do_missing.ensures.slots
