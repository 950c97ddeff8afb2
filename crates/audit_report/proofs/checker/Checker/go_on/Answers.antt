use Rattle.std.proofs.Common.{rules}
use Rattle.audit_report.specs.Checkers.{state_of}
use Rattle.audit_report.specs.Moves.{IsTurn}
use Rattle.audit_report.proofs.Moves.{no_repeat}
use Rattle.audit_report.proofs.checker.Checker.go_on.Goals as goal

pub returns-in-Some-clause-no : goal.returns-in-Some-clause-no
returns-in-Some-clause-no c =
    let turn : IsTurn c.args.session.now c.args.self.now c.in-Some.loom = c.in-Some.ensures.some (search rules) (search rules) in
    λ e. no_repeat c.args.session.now (state_of c.args.self.now) c.in-Some.loom c.args.piece.now turn.acts turn.below turn.there turn.left (c.in_ok-goes.ensures.no e)
