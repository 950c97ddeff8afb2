use Rattle.std.proofs.Common.{rules}
use Rattle.audit_report.proofs.Rows.{some_left}
use Rattle.audit_report.proofs.check.is_over.Goals as goal

pub returns-then-checker-len-clause-no : goal.returns-then-checker-len-clause-no
returns-then-checker-len-clause-no c = λ e y. some_left c.args.checker.now.coming.items c.args.checker.now.next (search rules) y.1
