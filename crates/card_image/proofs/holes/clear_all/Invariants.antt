use Rattle.std.proofs.Common.{◌≡◌, ◌<◌, ℕ, get_or, length}
use Rattle.card_image.proofs.holes.clear_all.Given as goal

abbrev pub invariant-loop-at : goal.invariant-loop-at
invariant-loop-at l = (length l.out ≡ length l.initial.out) × ((j : ℕ) → j < l.at → get_or l.out j 0 ≡ 0)
