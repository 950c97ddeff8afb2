-- Words of which a stretch of bits is set anew.
use Rattle.std.specs.Prelude.{◌≡◌, ℕ, ◌+◌, ◌<◌, ◌≤◌, Bool, List, length}
use Rattle.mill_base.specs.Bits.{bit_of}

-- `new` is `old` but for `count` bits from `at` on: bit at + i is cell i
pub record AreLaid (old : List ℕ) (at count : ℕ) (cell : ℕ → Bool) (new : List ℕ) : Type 0 where
  pub len : length new ≡ length old
  pub here : (i : ℕ) → i < count → bit_of new (at + i) ≡ cell i
  pub below : (k : ℕ) → k < at → bit_of new k ≡ bit_of old k
  pub past : (k : ℕ) → at + count ≤ k → bit_of new k ≡ bit_of old k
