use Rattle.std.proofs.Common.{◌∙◌, List, ℕ, subst}
use Rattle.std.proofs.Math.Facts.{Fits-lt-pow}
use Rattle.card_image.specs.inner.Masks.{IsMask}
use Rattle.card_image.proofs.Turned.{turned_packed}
use Rattle.card_image.proofs.card_set.turn.Goals as goal

pub returns : goal.returns
returns c row width are =
    let casting = c.args.casting.now in
    let mask : IsMask casting.hooks casting.columns c.mark_hooks.new.out =
    subst (λ (h : ℕ). IsMask h casting.columns c.mark_hooks.new.out) c.hooks.ensures.count
    (subst (λ (cs : List ℕ). IsMask c.hooks.result cs c.mark_hooks.new.out) c.hooks_of_columns.ensures.hooks c.mark_hooks.ensures) in
    turned_packed casting.hooks casting.columns c.mark_hooks.new.out c.args.card.now c.clear_holes.new.holes row mask width are
    (c.clear_holes.ensures.len ∙ mask.wide) (λ j. Fits-lt-pow (c.type_inv.out j)) c.clear_holes.ensures.bits
