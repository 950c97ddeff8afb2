use Rattle.std.proofs.Common.{rules, subst}
use Rattle.point_paper.specs.Papers.{PaperCells}
use Rattle.audit_report.specs.Checkers.{AreDigests}
use Rattle.audit_report.proofs.Keeping.{starts}
use Rattle.audit_report.proofs.checker.Checker.start.Goals as goal

pub returns : goal.returns
returns c =
    starts c.args.session.now _ c.in_ok-first.first c.requires.fits (search rules) (search rules) (search rules) (search rules) (search rules) (search rules) (search rules) (search rules) (search rules) (search rules)
    (subst (λ (p : PaperCells). AreDigests c.args.session.now.design p c.in_ok-first.first) c.in_ok-paper.ensures c.in_ok-first.ensures) (search rules)
