use Rattle.shift_run.proofs.Ready.{started_ready, started_stands}
use Rattle.shift_run.proofs.desk.Desk.start_with.Goals as goal

pub returns-clause-stands : goal.returns-clause-stands
returns-clause-stands g c = started_stands c.args.session.now c.args.spare c.in_ok-core.core c.in_ok-end.end c.in_ok-core.ensures.core c.in_ok-core.ensures.at c.in_ok-end.ensures

pub returns-clause-ready : goal.returns-clause-ready
returns-clause-ready g c = started_ready c.args.session.now c.args.spare c.in_ok-core.core c.in_ok-end.end c.requires.fits c.in_ok-core.ensures.core c.in_ok-end.ensures
