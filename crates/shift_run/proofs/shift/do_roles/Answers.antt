use Rattle.std.proofs.Common.{ℕ, List, sym, subst, ◌∙◌}
use Rattle.shed_publish.specs.Versions.{IsPublished}
use Rattle.shed_publish.specs.declared.newest.Version.{Version}
use Rattle.shift_model.specs.Plans.{plan_of}
use Rattle.shift_run.specs.inner.Looms.{AllCanFinish, AllCanWeave, AllDid, AllFinished}
use Rattle.shift_run.specs.inner.Shifts.{Leaves}
use Rattle.shift_run.specs.declared.desk.Desk.{Desk}
use Rattle.shift_run.specs.declared.looms.Part.{Part}
use Rattle.shift_run.proofs.Telling.{can_weave, desk_ready, few_repeats}
use Rattle.shift_run.proofs.Short.{can_end, desk_leaves, leaves, told_stands}
use Rattle.shift_run.proofs.shift.do_roles.Goals as goal

pub ready_all-requires-clause-few : goal.ready_all-requires-clause-few
ready_all-requires-clause-few g c = few_repeats c.args.session.now c.args.shift c.args.desk.now c.args.looms.now.items c.requires.fits c.requires.before

pub work_all-all-requires-clause-ready : goal.work_all-all-requires-clause-ready
work_all-all-requires-clause-ready g c κs within =
    desk_ready c.know_laws.ensures.first c.args.session.now (record { core = c.args.desk.now.core; end = c.ready_all.new.end }) c.requires.fits
    (told_stands c.args.session.now c.args.desk.now c.ready_all.new.end c.ready_all.ensures.list c.requires.before.stands)
    (subst (λ (l : List Version). IsPublished l) (sym c.ready_all.ensures.list) c.published-known.ensures.published)

pub work_all-all-requires-clause-looms : goal.work_all-all-requires-clause-looms
work_all-all-requires-clause-looms g c κs within =
    subst (λ (p : List Part). AllCanWeave (plan_of c.args.session.now c.args.shift).repeats p c.ready_all.new.looms.items) (sym c.as_slice-parts.ensures.value)
    (can_weave c.know_laws.ensures.first c.args.session.now c.args.shift c.args.desk.now c.args.desk.now c.args.looms.now.items c.ready_all.new.looms.items c.ready_all.new.parts.items
    c.requires.fits c.requires.shift c.requires.before c.requires.before.stands c.ready_all.ensures.ready)

pub finish_shift-requires-clause-can : goal.finish_shift-requires-clause-can
finish_shift-requires-clause-can g c core =
    let parts = c.as_slice-parts.ensures.value in
    let repeats : List ℕ = (plan_of c.args.session.now c.args.shift).repeats in
    subst (λ (p : List Part). AllCanFinish repeats c.work_all-all.new.desk.core.cards p c.work_all-all.new.looms.items) (sym parts)
    (can_end c.args.session.now c.args.shift c.args.desk.now c.ready_all.new.end c.work_all-all.new.desk c.args.looms.now.items c.ready_all.new.looms.items c.work_all-all.new.looms.items
    c.ready_all.new.parts.items c.args.desk.now.end.list c.work_all-all.result c.requires.shift c.requires.before c.ready_all.ensures.ready c.work_all-all.ensures.foreman
    (subst (λ (p : List Part). AllDid c.args.shift repeats p c.ready_all.new.looms.items c.work_all-all.new.looms.items) parts c.work_all-all.ensures.looms) core)

pub returns : goal.returns
returns g c =
    let laws = c.know_laws.ensures in
    let parts = c.as_slice-parts.ensures.value in
    let repeats : List ℕ = (plan_of c.args.session.now c.args.shift).repeats in
    let after : Desk = c.work_all-all.new.desk in
    subst (λ (d : Desk). Leaves c.args.session.now c.args.shift c.args.desk.now d c.args.looms.now.items c.finish_shift.new.looms.items c.work_all-all.result) (sym c.finish_shift.ensures.desk)
    (leaves laws.stay laws.count laws.lift c.args.session.now c.args.shift c.published-known.result c.args.desk.now after
    c.args.looms.now.items c.ready_all.new.looms.items c.work_all-all.new.looms.items c.finish_shift.new.looms.items c.ready_all.new.parts.items c.work_all-all.result
    c.know_casting.ensures c.requires.shift c.requires.before c.published-known.ensures.few c.ready_all.ensures.ready
    (desk_leaves c.args.session.now c.args.shift c.args.desk.now c.ready_all.new.end after c.work_all-all.result c.ready_all.ensures.list c.requires.before.stands c.work_all-all.ensures.foreman)
    (subst (λ (p : List Part). AllDid c.args.shift repeats p c.ready_all.new.looms.items c.work_all-all.new.looms.items) parts c.work_all-all.ensures.looms)
    (subst (λ (p : List Part). AllFinished c.args.shift c.published-known.result after.core.version after.core.cards after.end.list repeats p c.work_all-all.new.looms.items c.finish_shift.new.looms.items)
    parts c.finish_shift.ensures.finished))
