use Rattle.std.proofs.Common.{◌≡◌, ◌≤◌, ℕ, get_or, length}
use Rattle.card_image.proofs.Masks.{AreCleared}
use Rattle.card_image.proofs.holes.clear_holes.Given as goal

abbrev pub invariant-loop-at : goal.invariant-loop-at
invariant-loop-at l = record {
  len : length l.holes ≡ length l.initial.holes;
  done : AreCleared l.holes l.initial.holes l.others l.at;
  rest : (j : ℕ) → l.at ≤ j → get_or l.holes j 0 ≡ get_or l.initial.holes j 0;
}
