use Rattle.std.proofs.Common.{ap, ◌∙◌}
use Rattle.studio_core.specs.Cores.{CoreValue}
use Rattle.shift_run.specs.declared.desk.Desk.{Desk}
use Rattle.shift_run.proofs.Starts.{at_start, stands_alike}
use Rattle.shift_run.proofs.run.run_from.Goals as goal

pub run_shifts-desk-requires-clause-start : goal.run_shifts-desk-requires-clause-start
run_shifts-desk-requires-clause-start g c κs within =
    let e = c.in-Ok.ensures in
    let after : Desk = c.start_looms.new.desk in
    let core = c.start_looms.ensures.core ∙ c.requires.core in
    at_start c.args.session.now after c.in-Ok.looms.items (ap (λ (d : CoreValue). d.entries) core) (ap (λ (d : CoreValue). d.spare) core)
    (stands_alike c.args.session.now c.args.desk after.core after.end c.start_looms.ensures.core c.start_looms.ensures.list c.requires.stands) e.looms
