use Rattle.std.proofs.Common.{◌≡◌, ◌==◌, ◌<◌, ◌*◌, ℕ, length, get_or}
use Rattle.mill_base.specs.Below.{any_below}
use Rattle.card_image.specs.Places.{hole_at, hole_bytes}
use Rattle.card_image.proofs.holes.mark_hooks.Given as goal

abbrev pub invariant-loop-hook : goal.invariant-loop-hook
invariant-loop-hook l = (length l.out ≡ hole_bytes l.hooks) × ((h : ℕ) → h < 8 * hole_bytes l.hooks → hole_at l.out 0 h ≡ any_below (λ c. get_or l.columns c 0 == h) l.hook-index)
