use Rattle.std.proofs.Common.{rules, ◌≡◌, sym, ◌∙◌}
use Rattle.audit_report.proofs.Versions.{first_version, here, not_yet}
use Rattle.audit_report.proofs.papers.paper_of_version.Goals as goal

pub returns-then-version-eq0-clause-some : goal.returns-then-version-eq0-clause-some
returns-then-version-eq0-clause-some c = first_version c.args.session.now c.args.entries.now c.args.version c.in_ok-paper.paper (search rules) c.in_ok-paper.ensures

pub returns-then-made-version-clause-some : goal.returns-then-made-version-clause-some
returns-then-made-version-clause-some c =
    let same : c.in_ok-made.made ≡ c.args.version = search rules in
    here c.args.session.now c.args.entries.now c.loop-entry.entry-index c.args.version _ c.loop-entry.paper _ c.loop-entry-test.true c.requires.replied
    c.loop-entry.invariant c.in_ok-made.ensures.paper (sym c.in_ok-made.ensures.made ∙ same)

pub loop-entry-preserved : goal.loop-entry-preserved
loop-entry-preserved c =
    let other : c.in_ok-made.made ≡ c.args.version → ⊥ = search rules in
    not_yet c.args.session.now c.args.entries.now c.loop-entry.entry-index c.args.version _ c.loop-entry.paper _ c.loop-entry-test.true c.requires.replied
    c.loop-entry.invariant c.in_ok-made.ensures.paper c.in_ok-made.ensures.of_design (λ e. other (c.in_ok-made.ensures.made ∙ e))
