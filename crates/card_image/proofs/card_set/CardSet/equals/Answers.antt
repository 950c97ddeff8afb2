use Rattle.std.proofs.Common.{◌∙◌, ap, sym}
use Rattle.card_image.specs.Sets.{CardsValue}
use Rattle.card_image.proofs.Written.{same_sets}
use Rattle.card_image.proofs.card_set.CardSet.equals.Goals as goal

pub returns-then-is_alike : goal.returns-then-is_alike
returns-then-is_alike c =
    let designs = ap (λ (v : CardsValue). v.design) c.self.view_is ∙ c.is_alike.ensures.0 c.if-is_alike.true ∙ sym (ap (λ (v : CardsValue). v.design) c.other.view_is) in
    let both = same_sets _ _ c.self.inside.chain.items c.other.inside.chain.items c.args.self.now c.args.other.now c.self.view_is c.other.view_is c.self.invariant c.other.invariant designs in (
      λ same. both.0 (sym c.deref.ensures.value ∙ c.same_bytes.ensures.0 same ∙ c.deref-then-is_alike.ensures.value),
      λ same. c.same_bytes.ensures.1 (c.deref.ensures.value ∙ both.1 same ∙ sym c.deref-then-is_alike.ensures.value),
    )
