use Rattle.std.proofs.Common.{◌≡◌, ◌<◌, ◌≤◌, ℕ, false, true, length, get_or}
use Rattle.tile_rebuild.proofs.some_tiles.add_span.Given as goal

abbrev pub invariant-loop-k : goal.invariant-loop-k
invariant-loop-k l = record {
  len : length l.row ≡ length l.fn.row;
  here : (j : ℕ) → l.at ≤ j → j < l.k → get_or l.row j false ≡ true;
  others : (j : ℕ) → get_or l.fn.row j false ≡ true → get_or l.row j false ≡ true;
}
