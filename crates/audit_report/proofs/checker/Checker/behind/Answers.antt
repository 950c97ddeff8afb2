use Rattle.std.proofs.Common.{arith}
use Rattle.audit_report.proofs.Rows.{all_dropped}
use Rattle.audit_report.proofs.checker.Checker.behind.Goals as goal

pub returns : goal.returns
returns c = all_dropped c.args.self.now.coming.items c.len.result (omega (arith, c.len.ensures))
