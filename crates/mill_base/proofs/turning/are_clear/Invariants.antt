use Rattle.std.proofs.Common.{◌≡◌, ◌*◌, ◌<◌, ℕ, false}
use Rattle.mill_base.specs.Bits.{bit_of}
use Rattle.mill_base.proofs.turning.are_clear.Given as goal

abbrev pub invariant-loop-index : goal.invariant-loop-index
invariant-loop-index l = (k : ℕ) → k < 64 * l.index → bit_of l.words k ≡ false
