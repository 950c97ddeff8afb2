use Rattle.studio_run.proofs.plain_end.last.Goals as goal

pub returns-in-Err-clause-fails : goal.returns-in-Err-clause-fails
returns-in-Err-clause-fails c = c.start_cause.ensures c.args.session.now c.in-Err.ensures.refusal
