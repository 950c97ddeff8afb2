use Rattle.std.proofs.Common.{sym, ap, ◌∙◌, []}
use Rattle.std.specs.Option.{option_map_or}
use Rattle.shed_publish.specs.Ends.{EndValue}
use Rattle.shed_publish.specs.inner.Places.{seen_at}
use Rattle.shed_publish.proofs.lemmas.Prefixes.{knows_same}
use Rattle.shed_publish.proofs.loom_end.LoomEnd.meet.Goals as goal

pub returns-clause-knows : goal.returns-clause-knows
returns-clause-knows c list known =
    let place = sym c.take.ensures.value ∙ c.in-Some.is in
    knows_same list (seen_at c.read_same-reader.result.0.place) c.count-2.new.self (sym c.count-2.ensures.lists.0) (sym c.count-2.ensures.lists.1)
    (c.read_same-reader.ensures.knows list (knows_same list c.args.self.now (seen_at c.in-Some.reader.place)
    (ap (λ (e : EndValue). e.list) (sym c.self.view_is) ∙ ap (λ r. option_map_or (λ x. (seen_at x.place).list) r []) place)
    (ap (λ (e : EndValue). e.learnt) (sym c.self.view_is) ∙ ap (λ r. option_map_or (λ x. (seen_at x.place).learnt) r []) place) known))
