-- Bits of a word under a mask.
use Rattle.std.proofs.Common.{◌≡◌, ◌+◌, ◌-◌, ◌*◌, ◌/◌, ◌%◌, ◌^◌, ◌<◌, ◌≤◌, ◌==◌, ℕ, ap, ◌∙◌, bit_or, bit_and, not, w64, arith}
use Rattle.std.specs.Int.{bit_at}
use Rattle.std.proofs.lemmas.Bool.Decides.{nat_tests}
use Rattle.std.proofs.lemmas.Nat.Bits.{bit_at-lt, bit_at_and, bit_at_or, bit_at_not, bit_at_ones, bit_at_ones_above, ones_shr}
use Rattle.mill_base.proofs.lemmas.WordBits.{bit_at_shl_below, bit_at_shl_from}

-- one word outside a mask and another inside: where the mask is clear it is the first
pub bit_at_outside : (a b mask i : ℕ) → mask < 2 ^ 64 → i < 64 → bit_at mask i ≡ 0 → bit_at (bit_or (bit_and a (2 ^ 64 - 1 - mask)) (bit_and b mask)) i ≡ bit_at a i
bit_at_outside a b mask i fits within clear =
    omega (
      arith,
      bit_at_or (bit_and a (2 ^ 64 - 1 - mask)) (bit_and b mask) i,
      bit_at_and a (2 ^ 64 - 1 - mask) i,
      bit_at_and b mask i,
      bit_at_not w64 mask i fits within,
      bit_at-lt a i,
      bit_at-lt b i,
    )

-- and where it is set the second
pub bit_at_inside : (a b mask i : ℕ) → mask < 2 ^ 64 → i < 64 → bit_at mask i ≡ 1 → bit_at (bit_or (bit_and a (2 ^ 64 - 1 - mask)) (bit_and b mask)) i ≡ bit_at b i
bit_at_inside a b mask i fits within set =
    omega (
      arith,
      bit_at_or (bit_and a (2 ^ 64 - 1 - mask)) (bit_and b mask) i,
      bit_at_and a (2 ^ 64 - 1 - mask) i,
      bit_at_and b mask i,
      bit_at_not w64 mask i fits within,
      bit_at-lt a i,
      bit_at-lt b i,
    )

-- the lowest so many bits
lowest : (count : ℕ) → count ≤ 64 → (2 ^ 64 - 1) / 2 ^ (64 - count) ≡ 2 ^ count - 1
lowest count h = ones_shr 64 (64 - count) (omega arith) ∙ ap (λ n. 2 ^ n - 1) (let e : 64 - (64 - count) ≡ count = omega arith in e)

-- a mask of `count` bits from bit `from` on, as it is computed
pub bit_at_window_below : (from count i : ℕ) → from + count ≤ 64 → i < from → bit_at ((2 ^ 64 - 1) / 2 ^ (64 - count) * 2 ^ from % 2 ^ 64) i ≡ 0
bit_at_window_below from count i within below = bit_at_shl_below ((2 ^ 64 - 1) / 2 ^ (64 - count)) from 64 i below (omega arith)

pub bit_at_window_inside : (from count i : ℕ) → from + count ≤ 64 → from ≤ i → i < from + count → bit_at ((2 ^ 64 - 1) / 2 ^ (64 - count) * 2 ^ from % 2 ^ 64) i ≡ 1
bit_at_window_inside from count i within above below =
    bit_at_shl_from ((2 ^ 64 - 1) / 2 ^ (64 - count)) from 64 i above (omega arith)
    ∙ ap (λ n. bit_at n (i - from)) (lowest count (omega arith)) ∙ bit_at_ones count (i - from) (omega arith)

pub bit_at_window_past : (from count i : ℕ) → from + count ≤ 64 → from + count ≤ i → i < 64 → bit_at ((2 ^ 64 - 1) / 2 ^ (64 - count) * 2 ^ from % 2 ^ 64) i ≡ 0
bit_at_window_past from count i within past below =
    bit_at_shl_from ((2 ^ 64 - 1) / 2 ^ (64 - count)) from 64 i (omega arith) below
    ∙ ap (λ n. bit_at n (i - from)) (lowest count (omega arith)) ∙ bit_at_ones_above count (i - from) (omega arith)

-- a bit of a word that is turned round
pub bit_negated : (n i : ℕ) → n < 2 ^ 64 → i < 64 → (bit_at (2 ^ 64 - 1 - n) i == 1) ≡ not (bit_at n i == 1)
bit_negated n i fits within = ap (λ b. b == 1) (bit_at_not w64 n i fits within) ∙ flipped (bit_at n i) (bit_at-lt n i) where
  flipped : (b : ℕ) → b < 2 → (1 - b == 1) ≡ not (b == 1)
  flipped b h = grind (arith, nat_tests)
