-- The first bit that is set.
use Rattle.std.specs.Prelude.{◌≡◌, ℕ, ◌<◌, ◌≤◌, true, false, List}
use Rattle.mill_base.specs.Bits.{bit_of}

-- k is the first bit from `from` on that is set
pub record IsFirstSet (words : List ℕ) (from k : ℕ) : Type 0 where
  pub ahead : from ≤ k
  pub here : bit_of words k ≡ true
  pub before : (j : ℕ) → from ≤ j → j < k → bit_of words j ≡ false
