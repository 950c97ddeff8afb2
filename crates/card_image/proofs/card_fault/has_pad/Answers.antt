use Rattle.std.proofs.Common.{◌∙◌, sym, ◌+◌}
use Rattle.mill_base.proofs.lemmas.Belows.{any_here}
use Rattle.card_image.specs.Places.{hole_at}
use Rattle.card_image.proofs.card_fault.has_pad.Goals as goal

pub returns-then-has_hole : goal.returns-then-has_hole
returns-then-has_hole c =
    sym (any_here (λ k. hole_at c.args.holes.now 0 (c.args.hooks + k)) _ c.loop-k.k c.loop-k-test.true (sym c.has_hole.ensures ∙ c.if-has_hole.true))
