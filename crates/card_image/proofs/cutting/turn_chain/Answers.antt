use Rattle.std.proofs.Common.{◌≡◌, ◌<◌, ◌++◌, ◌∙◌, [], length, map, not, get_or, false, ap, sym, arith}
use Rattle.mill_base.specs.declared.face.Face.{Face}
use Rattle.card_image.specs.inner.Kept.{head_bytes}
use Rattle.casting_out.specs.Cards.{on_hooks, at_hooks}
use Rattle.card_image.specs.Sets.{design_by, other_face, turned_card}
use Rattle.card_image.proofs.Turned.{turned_at, turned_is_card, turned_row}
use Rattle.std.proofs.lemmas.List.{length-replicate, length-map}
use Rattle.card_image.proofs.Written.{begun, gone_on, ended}
use Rattle.card_image.proofs.cutting.turn_chain.Goals as goal

pub loop-pick-init : goal.loop-pick-init
loop-pick-init c = (
  ap length c.in_ok-card.ensures ∙ length-replicate _ false ∙ c.hooks-hooks.ensures.count,
  ap length c.in_ok-cells.ensures ∙ length-replicate _ false ∙ c.columns.ensures.count,
  begun (design_by c.args.casting.now c.args.set.now.design.picks) (other_face c.args.set.now.face) (map (turned_card c.args.casting.now.hooks c.args.casting.now.columns) c.args.set.now.holes)
      c.in_ok-chain.chain.items c.push_head.new.chain.items _ _ c.in_ok-chain.ensures.items
      (c.in_ok-push_head.ensures ∙ ap (λ (f : Face). c.in_ok-chain.chain.items ++ head_bytes c.hooks-hooks.result c.picks-picks.result f) (c.other.ensures ∙ ap other_face c.face.ensures))
      c.hooks-hooks.ensures.count c.picks-picks.ensures.count,
)

pub loop-pick-preserved : goal.loop-pick-preserved
loop-pick-preserved c =
    let casting = c.args.casting.now in
    let set = c.args.set.now in
    let count = c.picks-picks.ensures.whole.count in
    let low : c.loop-pick.pick < set.design.picks = omega (arith, c.loop-pick-test.true, c.picks-picks.ensures.count, c.loop-pick.auto.pick-end) in
    let row = get_or set.holes c.loop-pick.pick [] in
    let width : length row ≡ length c.loop-pick.card = (c.picks-picks.ensures.whole.each c.loop-pick.pick low).width ∙ sym (c.loop-pick.invariant.0 ∙ c.requires) in
    let read = c.unpack.ensures.inverse row width c.card-in-loop-pick.ensures.holes in (
      c.to_hooks.ensures.len,
      ap length c.negate.ensures ∙ length-map c.to_columns.new.columns not ∙ c.to_columns.ensures.len,
      gone_on (design_by casting set.design.picks) c.loop-pick.chain.items c.push_card.new.chain.items (other_face set.face) (map (turned_card casting.hooks casting.columns) set.holes) c.loop-pick.pick
          c.to_hooks.new.hooks (λ pick h. turned_is_card casting set.design.picks set.holes pick (omega (arith, h, count))) low c.in_ok-push_card.ensures
          (c.to_hooks.ensures.row ∙ ap (on_hooks casting.hooks casting.columns) (c.negate.ensures ∙ ap (map not) (c.to_columns.ensures.row ∙ ap (at_hooks casting.columns) read))
          ∙ turned_row casting.hooks casting.columns row ∙ sym (turned_at casting.hooks casting.columns set.holes c.loop-pick.pick (omega (arith, low, count))))
          c.loop-pick.invariant.2,
    )

pub returns : goal.returns
returns c =
    let casting = c.args.casting.now in
    let set = c.args.set.now in
    let count = c.picks-picks.ensures.whole.count in
    ended (design_by casting set.design.picks) c.loop-pick.chain.items (other_face set.face) (map (turned_card casting.hooks casting.columns) set.holes) c.loop-pick.pick
    (length-map set.holes (turned_card casting.hooks casting.columns) ∙ count)
    (λ pick h. turned_is_card casting set.design.picks set.holes pick (omega (arith, h, count)))
    (omega (arith, c.loop-pick-test.false, c.loop-pick.auto.pick-end, c.picks-picks.ensures.count)) c.loop-pick.invariant.2
