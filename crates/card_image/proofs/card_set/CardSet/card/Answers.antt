use Rattle.std.proofs.Common.{◌∙◌, ◌<◌, ◌+◌, ◌*◌, ℕ, [], List, ap, sym, subst, length, length-drop, get_or, take, drop, arith}
use Rattle.std.proofs.lemmas.List.{length-take-le}
use Rattle.mill_base.specs.Bits.{packed}
use Rattle.card_image.specs.Places.{hole_bytes}
use Rattle.card_image.specs.Sets.{CardsValue}
use Rattle.card_image.proofs.Complete.{card_room, card_part}
use Rattle.card_image.proofs.card_set.CardSet.card.Goals as goal

pub part-requires-clause-there : goal.part-requires-clause-there
part-requires-clause-there c =
    let there = subst (λ (v : CardsValue). c.args.pick < v.design.picks) (sym c.self.view_is) c.requires in
    let room = card_room _ _ _ _ c.args.pick c.self.invariant there in
    let e = ap length c.deref.ensures.value in
    omega (arith, room, e)

pub returns-clause-holes : goal.returns-clause-holes
returns-clause-holes c =
    let there = subst (λ (v : CardsValue). c.args.pick < v.design.picks) (sym c.self.view_is) c.requires in
    c.part.ensures ∙ ap (λ (xs : List ℕ). take (hole_bytes c.self.inside.hooks) (drop (12 + c.args.pick * (8 + hole_bytes c.self.inside.hooks) + 8) xs)) c.deref.ensures.value
    ∙ card_part _ _ _ _ c.args.pick c.self.invariant there ∙ ap (λ (v : CardsValue). packed (get_or v.holes c.args.pick [])) c.self.view_is

pub returns-clause-len : goal.returns-clause-len
returns-clause-len c =
    let there = subst (λ (v : CardsValue). c.args.pick < v.design.picks) (sym c.self.view_is) c.requires in
    let room = card_room _ _ _ _ c.args.pick c.self.invariant there in
    let e = ap length c.deref.ensures.value in
    let rest = length-drop (12 + c.args.pick * (8 + hole_bytes c.self.inside.hooks) + 8) c.deref.result.now in
    ap length c.part.ensures ∙ length-take-le (hole_bytes c.self.inside.hooks) (drop (12 + c.args.pick * (8 + hole_bytes c.self.inside.hooks) + 8) c.deref.result.now) (omega (arith, room, e, rest))
    ∙ ap (λ (v : CardsValue). hole_bytes v.design.hooks) c.self.view_is
