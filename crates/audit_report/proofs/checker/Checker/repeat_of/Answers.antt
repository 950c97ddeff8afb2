use Rattle.std.proofs.Common.{rules}
use Rattle.audit_report.proofs.Repeats.{can_weave}
use Rattle.audit_report.proofs.checker.Checker.repeat_of.Goals as goal

pub returns-clause-can : goal.returns-clause-can
returns-clause-can c =
    can_weave c.args.session.now c.args.self.now c.args.loom c.args.version _ c.requires.keeps c.requires.part c.requires.turn c.requires.low c.requires.high (search rules) (search rules) (search rules) (search rules)
