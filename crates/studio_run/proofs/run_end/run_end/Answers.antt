use Rattle.studio_run.proofs.Ends.{run_end}
use Rattle.studio_run.proofs.Trials.{order_fixed}
use Rattle.studio_run.proofs.run_end.run_end.Goals as goal

pub run_and_put-requires-clause-order : goal.run_and_put-requires-clause-order
run_and_put-requires-clause-order g c κs within = order_fixed _ _ _ c.in-Ok.session c.in-Ok.ensures.about

pub returns-in-Ok-clause-caused : goal.returns-in-Ok-clause-caused
returns-in-Ok-clause-caused g c = run_end _ _ _ c.in-Ok.session _ _ c.requires.runs c.in-Ok.ensures.about
    (record { files = c.in-Ok.ensures.files; writes = c.in-Ok.ensures.writes }) c.run_and_put.ensures.run
