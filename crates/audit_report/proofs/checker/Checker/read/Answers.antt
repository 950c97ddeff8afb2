use Rattle.std.proofs.Common.{rules, ◌<◌, ◌≤◌, ℕ, List, length, get_or, subst, ◌∙◌}
use Rattle.audit_model.specs.Audits.{Begins}
use Rattle.audit_report.specs.Checkers.{state_of}
use Rattle.audit_report.proofs.Moves.{came, read_on}
use Rattle.audit_report.proofs.Rows.{all_dropped}
use Rattle.audit_report.proofs.checker.Checker.read.Goals as goal

pub returns-then-self-len-clause-next : goal.returns-then-self-len-clause-next
returns-then-self-len-clause-next c =
    let old = c.args.self.now in
    let past : length old.coming.items ≤ old.next = search rules in
    λ e is bytes r. read_on c.args.session.now old c.args.piece.now c.go_on.new.self bytes c.requires.fits c.requires.part (c.in_ok-goes.ensures.yes e) is (all_dropped old.coming.items old.next past) r

pub returns-clause-next : goal.returns-clause-next
returns-clause-next c =
    let old = c.args.self.now in
    let more : old.next < length old.coming.items = search rules in
    let b : Begins c.args.piece.now (get_or old.coming.items old.next c.index.result.now) =
    subst (λ (l : List ℕ). Begins c.args.piece.now l) (c.as_slice.ensures ∙ c.index.ensures) (c.begins.ensures.yes c.if-not-begins.false) in
    λ e is bytes r. record {
      reached = came c.args.session.now bytes (state_of old) old.coming.items old.next c.index.result.now c.args.piece.now more b is r;
      keeps = c.requires.keeps;
    }
