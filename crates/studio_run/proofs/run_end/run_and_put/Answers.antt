use Rattle.std.proofs.Common.{sym, subst}
use Rattle.studio_run.proofs.Ends.{refused_run}
use Rattle.studio_run.specs.Answers.{sink_state}
use Rattle.studio_run.specs.declared.answer.Outcome.{Outcome}
use Rattle.studio_run.specs.inner.Ends.{IsRun}
use Rattle.studio_run.proofs.run_end.run_and_put.Goals as goal

pub returns-in-Err-clause-run : goal.returns-in-Err-clause-run
returns-in-Err-clause-run g c =
    let sink = sink_state (g.K.Sink.taken c.args.out.now) (g.K.Sink.faults c.args.out.now) in
    subst (λ (end : Outcome). IsRun c.args.command c.args.session.now sink sink end.run_log end.cause) (sym c.ended.ensures)
    (refused_run c.args.command c.args.session.now sink c.start_cause.result (c.start_cause.ensures c.args.session.now c.in-Err.ensures.refusal))
