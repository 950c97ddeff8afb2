use Rattle.std.proofs.Common.{◌≡◌, not, ◌&&◌, None}
use Rattle.card_image.specs.Firsts.{first_of, passing}
use Rattle.card_image.specs.Places.{hole_at}
use Rattle.card_image.specs.Sets.{hangs}
use Rattle.card_image.proofs.card_fault.first_idle.Given as goal

abbrev pub invariant-loop-hook : goal.invariant-loop-hook
invariant-loop-hook l = first_of (passing (λ h. hole_at l.holes 0 h && not (hangs l.plan.columns.items h))) l.hook ≡ None
