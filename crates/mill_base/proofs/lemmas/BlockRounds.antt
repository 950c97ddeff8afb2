-- A round of swaps in a block of words.
use Rattle.std.proofs.Common.{◌≡◌, ◌≢◌, ◌+◌, ◌-◌, ◌*◌, ◌/◌, ◌%◌, ◌^◌, ◌<◌, ◌≤◌, ◌==◌, ℕ, cond, List, length, get_or, set, length-set, get_or-set_same, get_or-set_other, refl, sym, ap, subst, ◌⊎◌, ◌∙◌, ⊎_elim, arith}
use Rattle.std.specs.Int.{bit_at}
use Rattle.std.proofs.lemmas.Bool.{cases_eq, cases_lt}
use Rattle.std.proofs.lemmas.Nat.Bits.{bit_at-lt}
use Rattle.mill_base.proofs.lemmas.WordBits.{bit_at_shr, bit_at_shl_from}
use Rattle.mill_base.specs.inner.Swaps.{IsSwapMask, IsPairSwapped, ArePairsSwapped, IsRoundOf, cross}

pub pair_within : (mask by row : ℕ) → IsSwapMask mask by → row < 64 → bit_at mask row ≡ 1 → row + by < 64
pair_within mask by row is h set = ⊎_elim (λ (inside : row + by < 64). inside)
    (λ (past : 64 ≤ row + by). absurd (let half = is.half in let none = is.last (row + by - 64) (omega arith) in
    let place = ap (bit_at mask) (let e : 64 - by + (row + by - 64) ≡ row = omega arith in e) in omega (arith, none, place, set)))
    (cases_lt (row + by) 64)

up_from : (mask by j : ℕ) → IsSwapMask mask by → bit_at mask j ≡ 0 → by ≤ j
up_from mask by j is clear = ⊎_elim (λ (low : j < by). absurd (let one = is.first j low in omega (arith, one, clear))) (λ (h : by ≤ j). h) (cases_lt j by)

-- two words after their swap
pub pair_swapped : (block : List ℕ) (mask by row one two : ℕ) → length block ≡ 64 → IsSwapMask mask by → row + by < 64
    → ((j : ℕ) → j < 64 → bit_at mask j ≡ 1 → bit_at one j ≡ bit_at (get_or block row 0) j)
    → ((j : ℕ) → j < 64 → bit_at mask j ≡ 0 → bit_at one j ≡ bit_at (get_or block (row + by) 0 * 2 ^ by % 2 ^ 64) j)
    → ((j : ℕ) → j < 64 → bit_at mask j ≡ 1 → bit_at two j ≡ bit_at (get_or block row 0 / 2 ^ by) j)
    → ((j : ℕ) → j < 64 → bit_at mask j ≡ 0 → bit_at two j ≡ bit_at (get_or block (row + by) 0) j)
    → IsPairSwapped mask by row block (set (set block row one) (row + by) two)
pair_swapped block mask by row one two long is within low_in low_out high_in high_out = record {
  low_kept = λ j h m. ap (λ w. bit_at w j) first ∙ low_in j h m;
  low_taken = λ j h m. ap (λ w. bit_at w j) first ∙ low_out j h m ∙ bit_at_shl_from (get_or block (row + by) 0) by 64 j (up_from mask by j is m) h;
  high_taken = λ j h m. ap (λ w. bit_at w j) second ∙ high_in j h m ∙ bit_at_shr (get_or block row 0) by j;
  high_kept = λ j h m. ap (λ w. bit_at w j) second ∙ high_out j h m;
} where
  first : get_or (set (set block row one) (row + by) two) row 0 ≡ one
  first = let some = is.some in get_or-set_other (set block row one) (row + by) row two 0 (omega arith) ∙ get_or-set_same block row one 0 (omega arith)

  second : get_or (set (set block row one) (row + by) two) (row + by) 0 ≡ two
  second = get_or-set_same (set block row one) (row + by) two 0 (let e = length-set block row one in omega arith)

-- the pairs whose first word is below `upto` are swapped
pub record AreSwapped (mask by upto : ℕ) (old mid : List ℕ) : Type 0 where
  pub done : (r : ℕ) → r < upto → bit_at mask r ≡ 1 → IsPairSwapped mask by r old mid
  pub low : (r : ℕ) → upto ≤ r → bit_at mask r ≡ 1 → get_or mid r 0 ≡ get_or old r 0
  pub high : (r : ℕ) → upto ≤ r → bit_at mask r ≡ 1 → get_or mid (r + by) 0 ≡ get_or old (r + by) 0

pub none_swapped : (mask by : ℕ) (old : List ℕ) → AreSwapped mask by 0 old old
none_swapped mask by old = record { done = λ r h. absurd (omega arith); low = λ r h m. refl; high = λ r h m. refl }

along : (mask by r : ℕ) (old mid new : List ℕ) → IsPairSwapped mask by r old mid → get_or new r 0 ≡ get_or mid r 0 → get_or new (r + by) 0 ≡ get_or mid (r + by) 0 → IsPairSwapped mask by r old new
along mask by r old mid new pair low high = record {
  low_kept = λ j h m. ap (λ w. bit_at w j) low ∙ pair.low_kept j h m;
  low_taken = λ j h m. ap (λ w. bit_at w j) low ∙ pair.low_taken j h m;
  high_taken = λ j h m. ap (λ w. bit_at w j) high ∙ pair.high_taken j h m;
  high_kept = λ j h m. ap (λ w. bit_at w j) high ∙ pair.high_kept j h m;
}

from_old : (mask by r : ℕ) (old mid new : List ℕ) → IsPairSwapped mask by r mid new → get_or mid r 0 ≡ get_or old r 0 → get_or mid (r + by) 0 ≡ get_or old (r + by) 0 → IsPairSwapped mask by r old new
from_old mask by r old mid new pair low high = record {
  low_kept = λ j h m. pair.low_kept j h m ∙ ap (λ w. bit_at w j) low;
  low_taken = λ j h m. pair.low_taken j h m ∙ ap (λ w. bit_at w (j - by)) high;
  high_taken = λ j h m. pair.high_taken j h m ∙ ap (λ w. bit_at w (j + by)) low;
  high_kept = λ j h m. pair.high_kept j h m ∙ ap (λ w. bit_at w j) high;
}

-- one more pair of a square
pub no_pair_swapped : (mask by start : ℕ) (old : List ℕ) → ArePairsSwapped mask by start start old old
no_pair_swapped mask by start old = record { pairs = λ r from h. absurd (omega arith); below = λ r h. refl; between = λ r from h. refl; past = λ r h. refl }

pub one_pair_swapped : (mask by start row : ℕ) (old mid new : List ℕ) → start ≤ row → row < start + by → ArePairsSwapped mask by start row old mid → IsPairSwapped mask by row mid new
    → ((r : ℕ) → r ≢ row → r ≢ row + by → get_or new r 0 ≡ get_or mid r 0) → ArePairsSwapped mask by start (row + 1) old new
one_pair_swapped mask by start row old mid new from within before pair others = record {
  pairs = λ r low below. ⊎_elim
      (λ (same : r ≡ row).
      subst (λ n. IsPairSwapped mask by n old new) (sym same) (from_old mask by row old mid new pair (before.between row (omega arith) within) (before.past (row + by) (omega arith))))
      (λ (ne : r ≢ row).
      along mask by r old mid new (before.pairs r low (omega arith)) (others r ne (omega arith)) (others (r + by) (omega arith) (omega arith)))
      (cases_eq r row);
  below = λ r h. others r (omega arith) (omega arith) ∙ before.below r h;
  between = λ r low h. others r (omega arith) (omega arith) ∙ before.between r (omega arith) h;
  past = λ r h. others r (omega arith) (omega arith) ∙ before.past r (omega arith);
}

-- the words from `start` on up to the next `by` have the mask's bits set
abbrev pub IsSetFrom : ℕ → ℕ → ℕ → Type 0
IsSetFrom mask by start = (i : ℕ) → i < by → start + i < 64 → bit_at mask (start + i) ≡ 1

pub set_first : (mask by : ℕ) → IsSwapMask mask by → IsSetFrom mask by 0
set_first mask by is i h within = ap (bit_at mask) (let e : 0 + i ≡ i = omega arith in e) ∙ is.first i h

inside_by : (mask by start : ℕ) → IsSwapMask mask by → start < 64 → IsSetFrom mask by start → start + by ≤ 64
inside_by mask by start is h set = ⊎_elim
    (λ (past : 64 < start + by).
    let some = is.some in let half = is.half in
    let one = set (63 - start) (omega arith) (omega arith) in
    let none = is.last (by - 1) (omega arith) in
    let a = ap (bit_at mask) (let e : start + (63 - start) ≡ 63 = omega arith in e) in
    let b = ap (bit_at mask) (let e : 64 - by + (by - 1) ≡ 63 = omega arith in e) in
    absurd (omega (arith, one, none, a, b)))
    (λ (within : start + by ≤ 64). within)
    (cases_lt 64 (start + by))

pub square_within : (mask by start : ℕ) → IsSwapMask mask by → start < 64 → IsSetFrom mask by start → start + 2 * by ≤ 64
square_within mask by start is h set =
    let some = is.some in
    let inside = inside_by mask by start is h set in
    let one = pair_within mask by (start + (by - 1)) is (omega arith) (set (by - 1) (omega arith) (omega arith)) in
    omega (arith, one, some)

clear_after : (mask by start i : ℕ) → IsSwapMask mask by → start < 64 → IsSetFrom mask by start → i < by → bit_at mask (start + by + i) ≡ 0
clear_after mask by start i is h set below =
    let within = square_within mask by start is h set in
    let one = set i below (omega arith) in
    let turn = is.turns (start + i) (omega arith) in
    let place = ap (bit_at mask) (let e : start + i + by ≡ start + by + i = omega arith in e) in
    omega (arith, one, turn, place)

pub set_next : (mask by start : ℕ) → IsSwapMask mask by → start < 64 → IsSetFrom mask by start → IsSetFrom mask by (start + 2 * by)
set_next mask by start is h set i below within =
    let none = clear_after mask by start i is h set below in
    let turn = is.turns (start + by + i) (omega arith) in
    let place = ap (bit_at mask) (let e : start + by + i + by ≡ start + 2 * by + i = omega arith in e) in
    omega (arith, none, turn, place)

-- one more square
pub one_swapped : (mask by start : ℕ) (old mid new : List ℕ) → IsSwapMask mask by → start < 64 → IsSetFrom mask by start → AreSwapped mask by start old mid
    → ArePairsSwapped mask by start (start + by) mid new → AreSwapped mask by (start + 2 * by) old new
one_swapped mask by start old mid new is h set before square = record {
  done = λ r upto m. ⊎_elim
      (λ (early : r < start).
      along mask by r old mid new (before.done r early m) (square.below r early)
      (⊎_elim
      (λ (outer : r + by < start). square.below (r + by) outer)
      (λ (inner : start ≤ r + by).
      let inside = pair_within mask by r is (omega arith) m in
      let turn = is.turns r inside in
      let one = set (r + by - start) (omega arith) (omega arith) in
      let place = ap (bit_at mask) (let e : start + (r + by - start) ≡ r + by = omega arith in e) in
      absurd (omega (arith, turn, one, place, m)))
      (cases_lt (r + by) start)))
      (λ (late : start ≤ r). ⊎_elim
      (λ (here : r < start + by). from_old mask by r old mid new (square.pairs r late here) (before.low r late m) (before.high r late m))
      (λ (after : start + by ≤ r).
      let none = clear_after mask by start (r - start - by) is h set (omega arith) in
      let place = ap (bit_at mask) (let e : start + by + (r - start - by) ≡ r = omega arith in e) in
      absurd (omega (arith, none, place, m)))
      (cases_lt r (start + by)))
      (cases_lt r start);
  low = λ r from m. square.past r (omega arith) ∙ before.low r (omega arith) m;
  high = λ r from m. square.past (r + by) (omega arith) ∙ before.high r (omega arith) m;
}

cross_is : (mask by r j a b : ℕ) → bit_at mask r ≡ a → bit_at mask j ≡ b → cross mask by r j ≡ cond (a == b) r (cond (a == 1) (r + by) (r - by))
cross_is mask by r j a b one two =
    ap (λ x. cond (x == bit_at mask j) r (cond (x == 1) (r + by) (r - by))) one ∙ ap (λ y. cond (a == y) r (cond (a == 1) (r + by) (r - by))) two

-- all pairs are swapped: that is the round
pub round_done : (mask by : ℕ) (old new : List ℕ) → IsSwapMask mask by → ((r : ℕ) → r < 64 → bit_at mask r ≡ 1 → IsPairSwapped mask by r old new) → IsRoundOf mask by old new
round_done mask by old new is all r j hr hj = ⊎_elim
    (λ (low : bit_at mask r ≡ 1).
    let pair = all r hr low in
    ⊎_elim
    (λ (one : bit_at mask j ≡ 1). pair.low_kept j hj one ∙ sym (at r j 1 1 low one))
    (λ (none : bit_at mask j ≡ 0). pair.low_taken j hj none ∙ sym (at r j 1 0 low none))
    (bit j))
    (λ (high : bit_at mask r ≡ 0).
    let up = up_from mask by r is high in
    let back : r - by + by ≡ r = omega arith in
    let turn = is.turns (r - by) (omega arith) in
    let place = ap (bit_at mask) back in
    let pair = all (r - by) (omega arith) (omega (arith, turn, place, high)) in
    ⊎_elim
    (λ (one : bit_at mask j ≡ 1). ap (λ m. bit_at (get_or new m 0) j) (sym back) ∙ pair.high_taken j hj one ∙ sym (at r j 0 1 high one))
    (λ (none : bit_at mask j ≡ 0).
    ap (λ m. bit_at (get_or new m 0) j) (sym back) ∙ pair.high_kept j hj none ∙ ap (λ m. bit_at (get_or old m 0) j) back ∙ sym (at r j 0 0 high none))
    (bit j))
    (bit r) where
      bit : (i : ℕ) → (bit_at mask i ≡ 1) ⊎ (bit_at mask i ≡ 0)
      bit i = let small = bit_at-lt mask i in grind arith

      at : (r j a b : ℕ) → bit_at mask r ≡ a → bit_at mask j ≡ b
          → bit_at (get_or old (cross mask by r j) 0) (cross mask by j r)
          ≡ bit_at (get_or old (cond (a == b) r (cond (a == 1) (r + by) (r - by))) 0) (cond (b == a) j (cond (b == 1) (j + by) (j - by)))
      at r j a b one two = ap (λ q. bit_at (get_or old q 0) (cross mask by j r)) (cross_is mask by r j a b one two)
          ∙ ap (bit_at (get_or old (cond (a == b) r (cond (a == 1) (r + by) (r - by))) 0)) (cross_is mask by j r b a two one)
