use Rattle.std.proofs.Common.{◌≡◌, ◌*◌, ◌≤◌, replicate, sym, ap, subst, ◌∙◌, rules, arith}
use Rattle.std.specs.Vec.{vec_capacity}
use Rattle.studio_core.specs.Cores.{CoreValue}
use Rattle.open_desk.proofs.Keeping.{kept_first, shaped_is}
use Rattle.open_desk.proofs.locked.Locked.start.Goals as goal

pub invariant_of-result : goal.invariant_of-result
invariant_of-result g c =
    let core = c.in_ok-core.core in
    let is = c.in_ok-core.ensures.core in
    let n = g.N.Shape in
    let all : c.ACTS.result * c.CALLERS.result ≡ n.ACTS * n.CALLERS = (λ i. c.ACTS.ensures i * c.CALLERS.ensures i) in (
      shaped_is n.COLUMNS n.PICKS n.COLOURS c.args.design core (ap (λ (v : CoreValue). v.design) is) c.requires.columns c.requires.picks c.requires.colours,
      kept_first n.CALLERS n.ACTS c.args.opening c.in_ok-kept.kept c.in_ok-acts.acts.items c.in_ok-counts.counts.items c.args.book.total _ core (ap (λ (v : CoreValue). v.entries) is)
          (ap (λ (v : CoreValue). v.spare) is ∙ all) c.in_ok-core.ensures.at c.in_ok-kept.ensures c.in_ok-acts.ensures.none (c.in_ok-counts.ensures ∙ ap (λ k. replicate k 0) c.CALLERS-2.ensures) c.requires.book (search rules) (search rules)
          (subst (λ k. k ≤ vec_capacity c.in_ok-acts.acts) all c.in_ok-acts.ensures.room),
      c.requires.rest.0,
      c.requires.rest.1,
    )
