-- Blocks of words that hold a cyclic line.
use Rattle.std.specs.Prelude.{◌≡◌, ℕ, ◌+◌, ◌-◌, ◌*◌, ◌/◌, ◌≤◌, ◌<◌, ◌||◌, Bool, false, List}
use Rattle.mill_base.specs.Bits.{bit_of}
use Rattle.mill_base.specs.declared.limits.TheConstants.{MAX_ENDS}

-- the words hold a line of n cells, which is not empty, and every bit past it is clear
pub record IsBlock (words : List ℕ) (n : ℕ) : Type 0 where
  pub some : 0 < n
  pub most : n ≤ MAX_ENDS
  pub clear : (k : ℕ) → n ≤ k → bit_of words k ≡ false

-- bit by bit, the first `count` words are the old ones joined with others, and the rest stay
pub record AreJoined (cell : Bool → Bool → Bool) (old others : List ℕ) (count : ℕ) (new : List ℕ) : Type 0 where
  pub here : (k : ℕ) → k < 64 * count → bit_of new k ≡ cell (bit_of old k) (bit_of others k)
  pub past : (k : ℕ) → 64 * count ≤ k → bit_of new k ≡ bit_of old k

-- bits `behind` .. of a word's rest are joined with the first bits of a line
pub record IsAgain (line old : List ℕ) (behind : ℕ) (new : List ℕ) : Type 0 where
  pub below : (k : ℕ) → k < behind → bit_of new k ≡ bit_of old k
  pub within : (k : ℕ) → behind ≤ k → k < 64 * ((behind + 63) / 64) → bit_of new k ≡ (bit_of old k || bit_of line (k - behind))
  pub past : (k : ℕ) → 64 * ((behind + 63) / 64) ≤ k → bit_of new k ≡ bit_of old k
