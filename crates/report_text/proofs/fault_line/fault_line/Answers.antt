use Rattle.report_text.specs.Causes.{line}
use Rattle.report_text.proofs.Puts.{all_or_part}
use Rattle.report_text.proofs.fault_line.fault_line.Goals as goal

pub returns-clause-line : goal.returns-clause-line
returns-clause-line g c =
    all_or_part (g.E.Sink.taken c.args.err.now) (g.E.Sink.taken c.put_line.new.err) (g.E.Sink.faults c.args.err.now) (g.E.Sink.faults c.put_line.new.err)
    (line c.args.cause.now) c.put_line.result c.put_line.ensures.faults c.put_line.ensures.cause c.put_line.ensures.taken
