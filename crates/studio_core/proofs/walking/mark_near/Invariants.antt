use Rattle.std.proofs.Common.{◌≡◌, ◌-◌, ◌<◌, ◌≤◌, ◌&&◌, ◌||◌, ℕ, false, length, get_or}
use Rattle.mill_base.specs.Below.{any_below}
use Rattle.tile_grid.specs.Near.{near}
use Rattle.studio_core.proofs.walking.mark_near.Given as goal

abbrev pub invariant-loop-tile : goal.invariant-loop-tile
invariant-loop-tile l = record {
  len : length l.set ≡ length l.initial.set;
  bound : l.from ≤ length l.of;
  tiles : (u : ℕ) → u < length l.initial.set → get_or l.set u false ≡ (get_or l.initial.set u false || any_below (λ t. get_or l.of t false && near l.grid t u) l.from);
}

abbrev pub decreases-loop-tile : goal.decreases-loop-tile
decreases-loop-tile l = length l.of - l.from
