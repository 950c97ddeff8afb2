use Rattle.std.proofs.Common.{rules, ◌≤◌, length, arith}
use Rattle.audit_report.specs.Checkers.{state_of}
use Rattle.audit_report.proofs.Acts.{are_few}
use Rattle.audit_report.proofs.Repeats.{none_woven, when_none}
use Rattle.audit_report.proofs.checker.Checker.read_repeat.Goals as goal

pub next_version-requires-clause-few : goal.next_version-requires-clause-few
next_version-requires-clause-few c =
    let few : length c.args.self.now.digests.items ≤ 65537 = omega (arith, (are_few c.args.session.now (state_of c.args.self.now) c.requires.fits c.requires.part).versions, c.requires.keeps.of_versions.count) in
    search (rules, few)

pub returns-in_default-clause-no : goal.returns-in_default-clause-no
returns-in_default-clause-no c = λ e.
    none_woven c.args.session.now c.args.self.now c.args.loom c.count_repeats-number.result c.least_of-low.result c.face_of-face.result c.deref.result.now c.args.piece.now c.requires.keeps c.requires.part
    c.face_of-face.ensures c.least_of-low.ensures c.count_repeats-number.ensures c.deref.ensures.value (when_none c.in_ok-found.found c.in_ok-found.ensures.none c.in_default.is)
