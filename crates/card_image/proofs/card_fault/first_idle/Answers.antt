use Rattle.std.proofs.Common.{arith, ◌≡◌, ℕ, List, Bool, true, false, not, ◌&&◌, ◌∙◌, sym, ap, refl}
use Rattle.card_image.specs.Firsts.{passing}
use Rattle.card_image.specs.Places.{hole_at}
use Rattle.card_image.specs.Sets.{hangs}
use Rattle.card_image.proofs.Firsts.{first_here, passing_yes}
use Rattle.card_image.proofs.card_fault.first_idle.Goals as goal

both : (a b : Bool) → a ≡ true → b ≡ false → (a && not b) ≡ true
both a b one other = rw (one, other) refl

pub returns-then-not-has_hole : goal.returns-then-not-has_hole
returns-then-not-has_hole c =
    let hook = c.loop-hook.hook in
    let p : ℕ → Bool = λ h. hole_at c.args.holes.now 0 h && not (hangs c.args.plan.now.columns.items h) in
    let masked : hole_at c.args.plan.now.mask.items 0 hook ≡ false =
    ap (λ (xs : List ℕ). hole_at xs 0 hook) (sym c.deref.ensures.value) ∙ sym c.has_hole-then-has_hole.ensures ∙ c.if-not-has_hole.true in
    sym (first_here (passing p) hook c.args.plan.now.hooks hook c.loop-hook.invariant
    (passing_yes p hook (both (hole_at c.args.holes.now 0 hook) (hangs c.args.plan.now.columns.items hook) (sym c.has_hole.ensures ∙ c.if-has_hole.true)
    (sym (c.args.plan.now.marked.bits hook (omega (arith, c.loop-hook-test.true))) ∙ masked))) c.loop-hook-test.true)
