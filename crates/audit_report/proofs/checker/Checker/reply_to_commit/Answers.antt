use Rattle.std.proofs.Common.{arith}
use Rattle.audit_report.specs.Checkers.{state_of}
use Rattle.audit_report.proofs.Acts.{are_few}
use Rattle.audit_report.proofs.checker.Checker.reply_to_commit.Goals as goal

pub overflow_cast-result : goal.overflow_cast-result
overflow_cast-result c =
    let few = are_few c.args.session.now (state_of c.args.self.now) c.requires.fits c.requires.part in
    omega (arith, few.versions, c.requires.keeps.of_versions.count, c.len.ensures)
