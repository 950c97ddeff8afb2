use Rattle.std.proofs.Common.{◌≡◌, ◌<◌, ◌&&◌, ◌||◌, ℕ, false, length, get_or, nat_lt}
use Rattle.std.specs.Prelude.{nat_le}
use Rattle.studio_core.proofs.touching.mark_span.Given as goal

abbrev pub invariant-loop-tile : goal.invariant-loop-tile
invariant-loop-tile l = record {
  len : length l.set ≡ length l.initial.set;
  tiles : (u : ℕ) → u < length l.initial.set → get_or l.set u false ≡ (get_or l.initial.set u false || (nat_le l.first u && nat_lt u l.tile));
}
