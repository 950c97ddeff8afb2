use Rattle.std.proofs.Common.{ℕ, List, refl, sym, subst, ◌∙◌}
use Rattle.shed_publish.specs.declared.newest.Version.{Version}
use Rattle.shift_model.specs.Plans.{plan_of}
use Rattle.shift_run.specs.inner.Looms.{AllCanFinish, AllCanWeave, AllDid, AllFinished}
use Rattle.shift_run.specs.inner.Shifts.{IsDoneAlone, LeavesAlone}
use Rattle.shift_run.specs.declared.desk.Desk.{Desk}
use Rattle.shift_run.specs.declared.looms.Part.{Part}
use Rattle.shift_run.proofs.OneThread.{broken_off, in_turn}
use Rattle.shift_run.proofs.Telling.{can_finish_all, can_weave, desk_ready, few_repeats}
use Rattle.shift_run.proofs.alone.do_in_turn.Goals as goal

pub direct_plain-requires-clause-ready : goal.direct_plain-requires-clause-ready
direct_plain-requires-clause-ready g c κs within =
    desk_ready c.know_laws.ensures.first c.args.session.now c.args.desk.now c.requires.fits c.requires.before.stands c.published.ensures.published

pub returns-then-not-direct_plain : goal.returns-then-not-direct_plain
returns-then-not-direct_plain g c =
    broken_off c.args.session.now c.args.shift c.args.desk.now c.direct_plain.new.desk c.args.looms.now.items c.requires.before c.if-not-direct_plain.ensures.directs

pub ready_all-requires-clause-few : goal.ready_all-requires-clause-few
ready_all-requires-clause-few g c = few_repeats c.args.session.now c.args.shift c.args.desk.now c.args.looms.now.items c.requires.fits c.requires.before

pub weave_shift-requires-clause-looms : goal.weave_shift-requires-clause-looms
weave_shift-requires-clause-looms g c κs within =
    let d = c.if-not-direct_plain.ensures.directs in
    subst (λ (p : List Part). AllCanWeave (plan_of c.args.session.now c.args.shift).repeats p c.ready_all.new.looms.items) (sym c.as_slice-parts.ensures.value)
    (can_weave c.know_laws.ensures.first c.args.session.now c.args.shift c.args.desk.now c.direct_plain.new.desk c.args.looms.now.items c.ready_all.new.looms.items c.ready_all.new.parts.items
    c.requires.fits c.requires.shift c.requires.before (d.adds c.requires.before.stands).0 c.ready_all.ensures.ready)

pub finish_shift-requires-clause-can : goal.finish_shift-requires-clause-can
finish_shift-requires-clause-can g c core =
    let d = c.if-not-direct_plain.ensures.directs in
    let parts = c.as_slice-parts.ensures.value in
    let repeats : List ℕ = (plan_of c.args.session.now c.args.shift).repeats in
    subst (λ (p : List Part). AllCanFinish repeats c.direct_plain.new.desk.core.cards p c.weave_shift.new.looms.items) (sym parts)
    (can_finish_all c.args.session.now c.args.shift c.args.desk.now c.direct_plain.new.desk c.args.looms.now.items c.ready_all.new.looms.items c.weave_shift.new.looms.items
    c.ready_all.new.parts.items c.direct_plain.new.desk.end.list c.requires.shift c.requires.before c.ready_all.ensures.ready
    (subst (λ (p : List Part). AllDid c.args.shift repeats p c.ready_all.new.looms.items c.weave_shift.new.looms.items) parts c.weave_shift.ensures) core d.design)

pub returns : goal.returns
returns g c =
    let d = c.if-not-direct_plain.ensures.directs in
    let laws = c.know_laws.ensures in
    let parts = c.as_slice-parts.ensures.value in
    let repeats : List ℕ = (plan_of c.args.session.now c.args.shift).repeats in
    let work : Desk = c.direct_plain.new.desk in
    subst (λ (x : Desk). IsDoneAlone c.args.session.now c.args.shift c.args.desk.now x c.args.looms.now.items c.finish_shift.new.looms.items) (sym c.finish_shift.ensures.desk)
    (in_turn laws.stay laws.count laws.lift c.args.session.now c.args.shift c.published-known.result c.args.desk.now work c.ready_all.new.end
    c.args.looms.now.items c.ready_all.new.looms.items c.weave_shift.new.looms.items c.finish_shift.new.looms.items c.ready_all.new.parts.items
    c.know_casting.ensures c.requires.shift c.requires.before d c.ready_all.ensures.list c.published-known.ensures.few c.ready_all.ensures.ready
    (subst (λ (p : List Part). AllDid c.args.shift repeats p c.ready_all.new.looms.items c.weave_shift.new.looms.items) parts c.weave_shift.ensures)
    (subst (λ (p : List Part). AllFinished c.args.shift c.published-known.result work.core.version work.core.cards c.ready_all.new.end.list repeats p c.weave_shift.new.looms.items c.finish_shift.new.looms.items)
    parts c.finish_shift.ensures.finished) (c.if-not-direct_plain.ensures.plain refl))
