use Rattle.std.proofs.Common.{◌≡◌, ◌+◌, ◌*◌, ◌<◌, ℕ}
use Rattle.std.specs.Int.{bit_at}
use Rattle.mill_base.specs.Bits.{bit_of}
use Rattle.cloth_floats.proofs.block.even_bytes.Given as goal

abbrev pub invariant-loop-index : goal.invariant-loop-index
invariant-loop-index l = (q b : ℕ) → q < l.index → b < 8 → ((j : ℕ) → j < 8 → bit_of l.words (64 * q + 8 * b + j) ≡ bit_of l.words (64 * q + 8 * b + j + 1)) → bit_at l.found (8 * b) ≡ 1
