-- Stretches of bits that are swapped within a word.
use Rattle.std.proofs.Common.{◌≡◌, ◌+◌, ◌-◌, ◌*◌, ◌/◌, ◌%◌, ◌^◌, ◌<◌, ◌≤◌, ◌==◌, ℕ, Bool, true, false, refl, ap, ◌∙◌, ⊎_elim, cond, ◌&&◌, nat_lt, nat_le, bit_or, bit_and, arith}
use Rattle.std.specs.Int.{bit_at}
use Rattle.std.proofs.lemmas.Bool.{cases_lt, and_parts, ltb-true, leb-true}
use Rattle.std.proofs.lemmas.Bool.Decides.{nat_tests}
use Rattle.std.proofs.lemmas.Nat.Bits.{bit_at-lt, bit_at_and, bit_at_or}
use Rattle.mill_base.proofs.lemmas.WordBits.{bit_at_shr, bit_at_shl_below, bit_at_shl_from}
use Rattle.mill_base.proofs.lemmas.Belows.{same_below, under_below}
use Rattle.mill_base.specs.Below.{all_below}
use Rattle.mill_base.specs.inner.Swaps.{IsSwapMask, swap_place}

-- what makes a mask, as a test that is computed
abbrev is_swap_mask : ℕ → ℕ → Bool
is_swap_mask mask by =
    nat_lt 0 by && (nat_le by 32 && (all_below (λ i. bit_at mask i == 1) by && (all_below (λ i. bit_at mask i + bit_at mask (i + by) == 1) (64 - by)
    && all_below (λ i. bit_at mask (64 - by + i) == 0) by)))

swap_mask : (mask by : ℕ) → is_swap_mask mask by ≡ true → IsSwapMask mask by
swap_mask mask by is =
    let a = and_parts _ _ is in
    let b = and_parts _ _ a.1 in
    let c = and_parts _ _ b.1 in
    let d = and_parts _ _ c.1 in
    record {
      some = ltb-true 0 by a.0;
      half = leb-true by 32 b.0;
      first = same_below (λ i. bit_at mask i) (λ i. 1) by c.0;
      turns = λ i h. same_below (λ i. bit_at mask i + bit_at mask (i + by)) (λ i. 1) (64 - by) d.0 i (omega arith);
      last = same_below (λ i. bit_at mask (64 - by + i)) (λ i. 0) by d.1;
    }

-- the masks that are used, and where the bits that they swap come from
pub mask_1 : IsSwapMask 0x5555555555555555 1
mask_1 = swap_mask 0x5555555555555555 1 refl

pub mask_2 : IsSwapMask 0x3333333333333333 2
mask_2 = swap_mask 0x3333333333333333 2 refl

pub mask_4 : IsSwapMask 0x0f0f0f0f0f0f0f0f 4
mask_4 = swap_mask 0x0f0f0f0f0f0f0f0f 4 refl

pub mask_8 : IsSwapMask 0x00ff00ff00ff00ff 8
mask_8 = swap_mask 0x00ff00ff00ff00ff 8 refl

pub mask_16 : IsSwapMask 0x0000ffff0000ffff 16
mask_16 = swap_mask 0x0000ffff0000ffff 16 refl

pub mask_32 : IsSwapMask 0x00000000ffffffff 32
mask_32 = swap_mask 0x00000000ffffffff 32 refl

abbrev pub place_1 : ℕ → ℕ
place_1 = swap_place 0x5555555555555555 1

abbrev pub place_2 : ℕ → ℕ
place_2 = swap_place 0x3333333333333333 2

abbrev pub place_4 : ℕ → ℕ
place_4 = swap_place 0x0f0f0f0f0f0f0f0f 4

abbrev pub place_8 : ℕ → ℕ
place_8 = swap_place 0x00ff00ff00ff00ff 8

abbrev pub place_16 : ℕ → ℕ
place_16 = swap_place 0x0000ffff0000ffff 16

abbrev pub place_32 : ℕ → ℕ
place_32 = swap_place 0x00000000ffffffff 32

pub within_2 : (i : ℕ) → i < 64 → place_2 i < 64
within_2 = under_below place_2 64 64 refl

pub within_4 : (i : ℕ) → i < 64 → place_4 i < 64
within_4 = under_below place_4 64 64 refl

pub within_8 : (i : ℕ) → i < 64 → place_8 i < 64
within_8 = under_below place_8 64 64 refl

pub within_16 : (i : ℕ) → i < 64 → place_16 i < 64
within_16 = under_below place_16 64 64 refl

pub within_32 : (i : ℕ) → i < 64 → place_32 i < 64
within_32 = under_below place_32 64 64 refl

-- three swaps put the bits of each byte in the other order, and three more the bytes
pub places_in_bytes : (i : ℕ) → i < 64 → place_1 (place_2 (place_4 i)) ≡ 8 * (i / 8) + (7 - i % 8)
places_in_bytes = same_below (λ i. place_1 (place_2 (place_4 i))) (λ i. 8 * (i / 8) + (7 - i % 8)) 64 refl

abbrev place_in_byte : ℕ → ℕ
place_in_byte i = 8 * (i / 8) + (7 - i % 8)

pub places_reversed : (i : ℕ) → i < 64 → place_in_byte (place_8 (place_16 (place_32 i))) ≡ 63 - i
places_reversed = same_below (λ i. place_in_byte (place_8 (place_16 (place_32 i)))) (λ i. 63 - i) 64 refl

-- a swap, bit by bit
pub bit_swapped : (word by mask i : ℕ) → by < 64 → IsSwapMask mask by → i < 64
    → bit_at (bit_or (bit_and (word / 2 ^ by) mask) (bit_and word mask * 2 ^ by % 2 ^ 64)) i ≡ bit_at word (swap_place mask by i)
bit_swapped word by mask i small is within =
    let low = bit_at_shr word by i in
    let either = bit_at_or (bit_and (word / 2 ^ by) mask) (bit_and word mask * 2 ^ by % 2 ^ 64) i in
    let one = bit_at_and (word / 2 ^ by) mask i in
    ⊎_elim
    (λ (below : i < by).
    let none = bit_at_shl_below (bit_and word mask) by 64 i below within in
    let set = is.first i below in
    let bit = bit_at-lt word (i + by) in
    omega (arith, either, one, low, none, set, bit)
    ∙ ap (bit_at word) (let e : i + by ≡ swap_place mask by i = grind (arith, nat_tests) in e))
    (λ (from : by ≤ i).
    let up = bit_at_shl_from (bit_and word mask) by 64 i from within in
    let two = bit_at_and word mask (i - by) in
    let turn = is.turns (i - by) (omega arith) in
    let back : i - by + by ≡ i = omega arith in
    let this = ap (bit_at mask) back in
    let a = bit_at-lt word (i + by) in
    let b = bit_at-lt word (i - by) in
    let m = bit_at-lt mask i in
    pick (bit_at mask i) (bit_at word (i + by)) (bit_at word (i - by))
    (bit_at (bit_or (bit_and (word / 2 ^ by) mask) (bit_and word mask * 2 ^ by % 2 ^ 64)) i) m
    (λ set. omega (arith, either, one, low, up, two, turn, this, a, b, set))
    (λ clear. omega (arith, either, one, low, up, two, turn, this, a, b, clear))
    ∙ pushed (bit_at mask i == 1) (bit_at word) (i + by) (i - by))
    (cases_lt i by) where
      pick : (m a b r : ℕ) → m < 2 → (m ≡ 1 → r ≡ a) → (m ≡ 0 → r ≡ b) → r ≡ cond (m == 1) a b
      pick m a b r h one none = grind (arith, nat_tests)

      pushed : (b : Bool) (f : ℕ → ℕ) (x y : ℕ) → cond b (f x) (f y) ≡ f (cond b x y)
      pushed true f x y = refl
      pushed false f x y = refl
