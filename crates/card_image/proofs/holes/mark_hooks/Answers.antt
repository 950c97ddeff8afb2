use Rattle.std.proofs.Common.{◌≡◌, ◌+◌, ◌==◌, ◌∙◌, ap, suc, get_or, length, refl, length-set, arith}
use Rattle.mill_base.specs.Below.{any_below}
use Rattle.card_image.proofs.Masks.{mask_more, hangs_not, none_marked}
use Rattle.card_image.proofs.holes.mark_hooks.Goals as goal

pub loop-hook-init : goal.loop-hook-init
loop-hook-init c = (c.clear_all.ensures.len ∙ c.requires.room, λ h low. none_marked c.clear_all.new.out c.clear_all.ensures.clear h)

pub loop-hook-preserved : goal.loop-hook-preserved
loop-hook-preserved c = (
  length-set c.loop-hook.out _ _ ∙ c.loop-hook.invariant.0,
  λ h low.
      let more : suc c.loop-hook.hook-index ≡ c.loop-hook.hook-index + 1 = omega arith in
      mask_more c.loop-hook.out c.args.columns.now c.args.hooks c.loop-hook.hook-index _ refl
      (c.requires.there c.loop-hook.hook-index 0 c.loop-hook-test.true) c.loop-hook.invariant.0 c.loop-hook.invariant.1 h low
      ∙ ap (any_below (λ c1. get_or c.args.columns.now c1 0 == h)) more,
)

pub returns : goal.returns
returns c = record {
  wide = c.loop-hook.invariant.0;
  bits = λ h low.
      let all : c.loop-hook.hook-index ≡ length c.args.columns.now = omega (arith, c.loop-hook-test.false, c.loop-hook.auto.hook-index-end) in
      c.loop-hook.invariant.1 h low ∙ ap (any_below (λ c1. get_or c.args.columns.now c1 0 == h)) all;
  pads = hangs_not c.args.hooks c.args.columns.now c.requires.there;
}
