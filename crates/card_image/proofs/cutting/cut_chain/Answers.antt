use Rattle.std.proofs.Common.{◌<◌, ◌∙◌, length, false, ap, sym, arith}
use Rattle.mill_base.specs.declared.face.Face.TheVariants.{Up}
use Rattle.casting_out.specs.Cards.{card as card_of_row}
use Rattle.card_image.specs.Sets.{cards_up, design_by}
use Rattle.card_image.proofs.Cut.{cut_is_card, cards_up_at, cards_up_count}
use Rattle.std.proofs.lemmas.List.{length-replicate}
use Rattle.card_image.proofs.Written.{begun, gone_on, ended}
use Rattle.card_image.proofs.cutting.cut_chain.Goals as goal

pub loop-pick-init : goal.loop-pick-init
loop-pick-init c = (
  ap length c.in_ok-card.ensures ∙ length-replicate _ false ∙ c.hooks-hooks.ensures.count,
  begun (design_by c.args.casting.now (length c.args.bits.now.rows)) Up (cards_up c.args.casting.now c.args.bits.now) c.in_ok-chain.chain.items c.push_head.new.chain.items _ _
      c.in_ok-chain.ensures.items c.in_ok-push_head.ensures c.hooks-hooks.ensures.count c.picks_of-picks.ensures,
)

pub loop-pick-preserved : goal.loop-pick-preserved
loop-pick-preserved c =
    let casting = c.args.casting.now in
    let bits = c.args.bits.now in
    let low : c.loop-pick.pick < length bits.rows = omega (arith, c.loop-pick-test.true, c.picks_of-picks.ensures, c.loop-pick.auto.pick-end) in (
      c.put_on_hooks.ensures.len,
      gone_on (design_by casting (length bits.rows)) c.loop-pick.chain.items c.push_card.new.chain.items Up (cards_up casting bits) c.loop-pick.pick c.put_on_hooks.new.card
          (cut_is_card c.holes_are_cells.ensures.long c.holes_are_cells.ensures.idle c.columns_and_hooks_match.ensures.hangs casting bits) low c.in_ok-push_card.ensures
          (c.put_on_hooks.ensures.row ∙ sym (c.a_card_is_a_row_on_the_hooks.ensures.up casting.hooks casting.columns c.row.result.now)
          ∙ ap (λ row. card_of_row casting.hooks casting.columns Up row) c.row.ensures.row ∙ sym (cards_up_at casting bits c.loop-pick.pick low))
          c.loop-pick.invariant.1,
    )

pub returns : goal.returns
returns c =
    let casting = c.args.casting.now in
    let bits = c.args.bits.now in
    ended (design_by casting (length bits.rows)) c.loop-pick.chain.items Up (cards_up casting bits) c.loop-pick.pick (cards_up_count casting bits)
    (cut_is_card c.holes_are_cells.ensures.long c.holes_are_cells.ensures.idle c.columns_and_hooks_match.ensures.hangs casting bits)
    (omega (arith, c.loop-pick-test.false, c.loop-pick.auto.pick-end, c.picks_of-picks.ensures)) c.loop-pick.invariant.1
