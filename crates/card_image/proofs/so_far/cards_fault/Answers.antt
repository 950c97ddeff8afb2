use Rattle.std.proofs.Common.{ℕ, ◌∙◌, sym, ap, suc, ◌≡◌, ◌+◌, arith}
use Rattle.card_image.specs.Places.{card_place, hole_bytes}
use Rattle.card_image.specs.Faults.{card_fault}
use Rattle.card_image.proofs.Firsts.{first_here, first_step}
use Rattle.card_image.proofs.Cards.{card_next, card_place_le, cards_to_come, place_is}
use Rattle.card_image.proofs.so_far.cards_fault.Goals as goal

pub loop-pick-init : goal.loop-pick-init
loop-pick-init c = (place_is c.args.plan.now.hooks c.args.from, c.requires.before)

pub overflow_add-at-in-loop-pick : goal.overflow_add-at-in-loop-pick
overflow_add-at-in-loop-pick c =
    let low = card_place_le c.args.plan.now.hooks c.loop-pick.pick c.args.plan.now.picks (omega (arith, c.loop-pick-test.true)) in
    omega (arith, low, c.requires.room, c.loop-pick.invariant.0)

pub returns-then-bytes-at : goal.returns-then-bytes-at
returns-then-bytes-at c =
    sym (cards_to_come c.args.plan.now.hooks c.args.plan.now.columns.items c.args.bytes.now c.loop-pick.pick c.args.plan.now.picks c.loop-pick.at c.loop-pick.invariant.0 c.if-bytes-at.true (omega (arith, c.loop-pick-test.true))
    ∙ c.loop-pick.invariant.1)

pub returns-in-Some : goal.returns-in-Some
returns-in-Some c =
    sym (first_here (card_fault c.args.plan.now.hooks c.args.plan.now.columns.items c.args.bytes.now) c.loop-pick.pick c.args.plan.now.picks c.in-Some.fault c.loop-pick.invariant.1 (sym c.card_fault.ensures ∙ c.in-Some.is) c.loop-pick-test.true)

pub loop-pick-preserved : goal.loop-pick-preserved
loop-pick-preserved c =
    let e : suc c.loop-pick.pick ≡ c.loop-pick.pick + 1 = omega arith in (
      ap (λ (n : ℕ). n + (8 + hole_bytes c.args.plan.now.hooks)) c.loop-pick.invariant.0 ∙ sym (card_next c.args.plan.now.hooks c.loop-pick.pick) ∙ ap (card_place c.args.plan.now.hooks) e,
      first_step (card_fault c.args.plan.now.hooks c.args.plan.now.columns.items c.args.bytes.now) c.loop-pick.pick c.loop-pick.invariant.1 (sym c.card_fault.ensures ∙ c.in_default.is),
    )
