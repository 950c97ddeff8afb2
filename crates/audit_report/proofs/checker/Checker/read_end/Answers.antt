use Rattle.std.proofs.Common.{rules, ◌≡◌, ◌++◌, List, ℕ, codes, refl, sym, ap, subst, ◌∙◌, arith}
use Rattle.report_text.specs.Reports.{last_version, numbered}
use Rattle.audit_model.specs.Audits.{Begins}
use Rattle.audit_model.specs.Lines.{end_line}
use Rattle.audit_model.specs.States.{entries_of}
use Rattle.audit_model.specs.States.Move.{End}
use Rattle.audit_model.proofs.Keeping.{last_counted}
use Rattle.audit_report.specs.Checkers.{state_of}
use Rattle.audit_report.proofs.Keeping.{end_keeps}
use Rattle.audit_report.proofs.checker.Checker.read_end.Goals as goal

pub returns-then-not-begins-clause-no : goal.returns-then-not-begins-clause-no
returns-then-not-begins-clause-no c =
    let s = state_of c.args.self.now in
    let number : c.newest.result ≡ last_version (entries_of s) = omega (arith, c.newest.ensures, c.requires.keeps.of_versions.count, last_counted c.args.session.now s c.requires.part) in
    let is : c.as_slice.result.now ≡ end_line (entries_of s) = c.as_slice.ensures ∙ c.in_ok-line.ensures ∙ ap (λ n. numbered (codes "end versions ") n ++ codes "\n") number in
    λ e b. c.begins.ensures.no c.if-not-begins.true (subst (λ (l : List ℕ). Begins c.args.piece.now l) (sym is) b)

pub returns-clause-yes : goal.returns-clause-yes
returns-clause-yes c =
    let s = state_of c.args.self.now in
    let number : c.newest.result ≡ last_version (entries_of s) = omega (arith, c.newest.ensures, c.requires.keeps.of_versions.count, last_counted c.args.session.now s c.requires.part) in
    let is : c.as_slice.result.now ≡ end_line (entries_of s) = c.as_slice.ensures ∙ c.in_ok-line.ensures ∙ ap (λ n. numbered (codes "end versions ") n ++ codes "\n") number in
    λ e. record {
      move = End;
      can = record { going = c.requires.going; done = c.requires.done; last = c.requires.last };
      first = subst (λ (l : List ℕ). Begins c.args.piece.now l) is (c.begins.ensures.yes c.if-not-begins.false);
      state = refl;
      coming = search rules;
      keeps = end_keeps c.args.session.now s c.args.self.now.done.items c.args.self.now.least.items c.args.self.now.paper c.args.self.now.digests.items c.requires.keeps;
    }
