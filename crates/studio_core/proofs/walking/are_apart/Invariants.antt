use Rattle.std.proofs.Common.{◌≡◌, ◌-◌, ◌<◌, ◌≤◌, ℕ, true, false, length, get_or}
use Rattle.studio_core.proofs.walking.are_apart.Given as goal

abbrev pub invariant-loop-tile : goal.invariant-loop-tile
invariant-loop-tile l = record {
  bound : l.from ≤ length l.one;
  apart : (u : ℕ) → u < l.from → get_or l.one u false ≡ true → get_or l.other u false ≡ false;
}

abbrev pub decreases-loop-tile : goal.decreases-loop-tile
decreases-loop-tile l = length l.one - l.from
