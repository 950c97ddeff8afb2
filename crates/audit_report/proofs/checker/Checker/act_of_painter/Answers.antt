use Rattle.std.proofs.Common.{◌≡◌, ◌+◌, ◌<◌, ◌++◌, ℕ, List, length, sym, ap, subst, ◌∙◌, arith}
use Rattle.audit_model.specs.Audits.{Begins}
use Rattle.audit_model.specs.States.{done_of, entries_of}
use Rattle.audit_report.specs.Checkers.{state_of}
use Rattle.audit_report.specs.Texts.{act_head}
use Rattle.audit_report.proofs.Acts.{count_at, not_head}
use Rattle.audit_report.proofs.checker.Checker.act_of_painter.Goals as goal

pub returns-then-not-may_begin-clause-none : goal.returns-then-not-may_begin-clause-none
returns-then-not-may_begin-clause-none c =
    let s = state_of c.args.self.now in
    let painter = c.args.painter in
    let n = c.index-done.result.now in
    let there : painter < length c.args.self.now.done.items = omega (arith, c.requires.painter, c.requires.keeps.painters) in
    let count : n + 1 ≡ done_of s painter + 1 = omega (arith, count_at c.args.self.now.done.items painter n there c.index-done.ensures, c.requires.keeps.counts painter c.requires.painter) in
    let head : c.deref.result.now ≡ act_head (length (entries_of s)) painter (n + 1) = c.deref.ensures.value ∙ c.in_ok-head.ensures ∙ ap (λ a. act_head a painter (n + 1)) c.count_acts-count.ensures in
    not_head c.args.session.now s c.args.piece.now (length (entries_of s)) painter (n + 1)
    (λ rest b. c.may_begin.ensures c.if-not-may_begin.true rest (subst (λ (l : List ℕ). Begins c.args.piece.now (l ++ rest)) (sym head) b)) count
