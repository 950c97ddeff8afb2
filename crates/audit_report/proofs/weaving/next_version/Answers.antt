use Rattle.std.proofs.Common.{rules, ◌≡◌, ℕ, List, sym, subst, arith}
use Rattle.audit_model.specs.Audits.{Begins}
use Rattle.audit_report.specs.Checkers.{digest_at}
use Rattle.audit_report.specs.Texts.{loom_line_by}
use Rattle.audit_report.proofs.Repeats.{no_more}
use Rattle.audit_report.proofs.weaving.next_version.Goals as goal

pub loop-version-preserved : goal.loop-version-preserved
loop-version-preserved c =
    let v = c.loop-version.version in
    let is : c.deref.result.now ≡ loom_line_by c.args.face c.args.loom c.args.number v (digest_at c.args.digests.now v c.args.face) = search rules in
    no_more (λ (n : ℕ). Begins c.args.piece.now (loom_line_by c.args.face c.args.loom c.args.number n (digest_at c.args.digests.now n c.args.face))) c.args.low v c.loop-version.invariant
    (λ b. c.begins.ensures.no c.if-begins.false (subst (λ (l : List ℕ). Begins c.args.piece.now l) (sym is) b))

pub returns-clause-none : goal.returns-clause-none
returns-clause-none c = λ v a b e. c.loop-version.invariant v a (omega (arith, b, c.loop-version-test.false, c.requires.newest)) e
