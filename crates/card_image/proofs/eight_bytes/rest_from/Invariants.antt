use Rattle.std.proofs.Common.{◌≡◌, ◌+◌, ◌<◌, ℕ, get_or, length}
use Rattle.card_image.proofs.eight_bytes.rest_from.Given as goal

abbrev pub invariant-loop-j : goal.invariant-loop-j
invariant-loop-j l = record {
  len : length l.eight ≡ 8;
  done : (i : ℕ) → i < l.j → get_or l.eight i 0 ≡ get_or l.bytes (l.at + i) 0;
}
