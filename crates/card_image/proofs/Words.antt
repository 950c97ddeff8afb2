-- Holes that are counted and compared by words.
use Rattle.std.proofs.Common.{◌≡◌, ⊎_elim, ℕ, zero, suc, ◌+◌, ◌-◌, ◌*◌, ◌/◌, ◌%◌, ◌^◌, ◌<◌, ◌≤◌, ◌==◌, Bool, true, false, cond, List, [], ◌∷◌, length, get_or, count_by, bit_and, w64, sym, ap, refl, ◌∙◌, arith}
use Rattle.std.proofs.lemmas.List.{get_or_past}
use Rattle.std.proofs.lemmas.Bool.{cases_lt, eqb-true, eq-eqb}
use Rattle.std.proofs.lemmas.Nat.Bits.{bit_at-lt, bit_at-zero, bit_at_and, bit_at_not}
use Rattle.std.specs.Int.{bit_at, bit_not}
use Rattle.std.specs.Int.RustNames.{count_ones}
use Rattle.mill_base.specs.Below.{count_below}
use Rattle.mill_base.specs.Bits.{bit_of, bits_of}
use Rattle.mill_base.specs.Lines.{line_by}
use Rattle.mill_base.proofs.lemmas.Belows.{count_alike, count_next, count_rest}
use Rattle.mill_base.proofs.lemmas.BitCounts.{counted, counted_none, counted_word}
use Rattle.mill_base.proofs.lemmas.Lines.{sum_by-line_by_more, line_is}
use Rattle.card_image.specs.Places.{hole_at}
use Rattle.card_image.specs.Sets.{hole_of}
use Rattle.card_image.specs.Chains.{hole_count}
use Rattle.card_image.proofs.Masks.{hole_here}

-- ---- counts of numbers below a bound

-- eight numbers more
abbrev flag : (ℕ → Bool) → ℕ → ℕ
flag p k = cond (p k) 1 0

eight : (p : ℕ → Bool) (m : ℕ) → count_below p (8 * suc m)
    ≡ count_below p (8 * m) + flag p (8 * m + 0) + flag p (8 * m + 1) + flag p (8 * m + 2) + flag p (8 * m + 3)
    + flag p (8 * m + 4) + flag p (8 * m + 5) + flag p (8 * m + 6) + flag p (8 * m + 7)
eight p m =
    let c : count_below p (8 * m + 0) ≡ count_below p (8 * m) = ap (count_below p) (let e : 8 * m + 0 ≡ 8 * m = omega arith in e) in
    let c0 = count_next p (8 * m + 0) (8 * m + 1) (omega arith) in
    let c1 = count_next p (8 * m + 1) (8 * m + 2) (omega arith) in
    let c2 = count_next p (8 * m + 2) (8 * m + 3) (omega arith) in
    let c3 = count_next p (8 * m + 3) (8 * m + 4) (omega arith) in
    let c4 = count_next p (8 * m + 4) (8 * m + 5) (omega arith) in
    let c5 = count_next p (8 * m + 5) (8 * m + 6) (omega arith) in
    let c6 = count_next p (8 * m + 6) (8 * m + 7) (omega arith) in
    let c7 = count_next p (8 * m + 7) (8 * suc m) (omega arith) in
    omega (arith, c, c0, c1, c2, c3, c4, c5, c6, c7)

-- a count does not depend on the order within each eight
count_turned : (p q : ℕ → Bool) → ((j i : ℕ) → i < 8 → p (8 * j + i) ≡ q (8 * j + (7 - i))) → (m : ℕ) → count_below p (8 * m) ≡ count_below q (8 * m)
count_turned p q same zero = refl
count_turned p q same (suc m) =
    let before = count_turned p q same m in
    let f : (i : ℕ) → i < 8 → flag p (8 * m + i) ≡ flag q (8 * m + (7 - i)) = λ i low. ap (λ b. cond {A = ℕ} b 1 0) (same m i low) in
    let f0 = f 0 (omega arith) in
    let f1 = f 1 (omega arith) in
    let f2 = f 2 (omega arith) in
    let f3 = f 3 (omega arith) in
    let f4 = f 4 (omega arith) in
    let f5 = f 5 (omega arith) in
    let f6 = f 6 (omega arith) in
    let f7 = f 7 (omega arith) in
    let a = eight p m in
    let b = eight q m in
    omega (arith, before, a, b, f0, f1, f2, f3, f4, f5, f6, f7)

-- the numbers below a bound, and so many from there on
count_further : (p : ℕ → Bool) (a n : ℕ) → count_below p (a + n) ≡ count_below p a + count_below (λ i. p (a + i)) n
count_further p a zero = ap (count_below p) (let e : a + 0 ≡ a = omega arith in e) ∙ omega arith
count_further p a (suc n) =
    let before = count_further p a n in
    let e : a + suc n ≡ suc (a + n) = omega arith in
    ap (count_below p) e ∙ omega (arith, before)

none_of_none : (cell : ℕ → Bool) → count_by (λ b. b) (line_by 0 cell) ≡ 0
unfolding line_by
none_of_none cell = refl

-- how many cells of a line are true
pub count_line : (n : ℕ) (cell : ℕ → Bool) → count_by (λ b. b) (line_by n cell) ≡ count_below cell n
count_line zero cell = none_of_none cell
count_line (suc n) cell =
    let e : suc n ≡ n + 1 = omega arith in
    ap (λ m. count_by (λ b. b) (line_by m cell)) e ∙ sum_by-line_by_more (λ b. cond b 1 0) n cell ∙ ap (λ m. m + cond (cell n) 1 0) (count_line n cell)

-- ---- words

ones_counted : (w : ℕ) → w < 2 ^ 64 → count_ones w ≡ count_below (bit_of (w ∷ [])) 64
unfolding bits_of
ones_counted w fits =
    let word = counted_word (w ∷ []) 0 fits in
    let none = counted_none (w ∷ []) in
    let all : counted (w ∷ []) 64 ≡ count_below (bit_of (w ∷ [])) 64 = count_line 64 (bit_of (w ∷ [])) in
    omega (arith, word, none, all)

-- the bit of a place in the order of words: bit k mod 8 of byte k div 8
abbrev pub low_bit : List ℕ → ℕ → Bool
low_bit bytes k = bit_at (get_or bytes (k / 8) 0) (k % 8) == 1

-- the word has eight bytes, the first lowest
abbrev pub IsWordOf : List ℕ → ℕ → ℕ → Type 0
IsWordOf bytes index w = (j i : ℕ) → j < 8 → i < 8 → bit_at w (8 * j + i) ≡ bit_at (get_or bytes (8 * index + j) 0) i

word_bit : (bytes : List ℕ) (index w : ℕ) → IsWordOf bytes index w → (k : ℕ) → k < 64 → bit_at w k ≡ bit_at (get_or bytes ((64 * index + k) / 8) 0) ((64 * index + k) % 8)
word_bit bytes index w is k low =
    ap (bit_at w) (let e : k ≡ 8 * (k / 8) + k % 8 = omega arith in e) ∙ is (k / 8) (k % 8) (omega arith) (omega arith)
    ∙ ap (λ n. bit_at (get_or bytes n 0) (k % 8)) (let e : 8 * index + k / 8 ≡ (64 * index + k) / 8 = omega arith in e)
    ∙ ap (bit_at (get_or bytes ((64 * index + k) / 8) 0)) (let e : k % 8 ≡ (64 * index + k) % 8 = omega arith in e)

pub word_counted : (bytes : List ℕ) (index count w : ℕ) → w < 2 ^ 64 → IsWordOf bytes index w → count ≡ count_below (low_bit bytes) (64 * index)
    → count + count_ones w ≡ count_below (low_bit bytes) (64 * (index + 1))
word_counted bytes index count w fits is before =
    let ones = ones_counted w fits in
    let same : count_below (bit_of (w ∷ [])) 64 ≡ count_below (λ k. low_bit bytes (64 * index + k)) 64 =
    count_alike (bit_of (w ∷ [])) (λ k. low_bit bytes (64 * index + k)) 64 (λ k low.
    ap (λ n. bit_at (get_or (w ∷ []) n 0) (k % 64) == 1) (let e : k / 64 ≡ 0 = omega arith in e)
    ∙ ap (λ n. bit_at w n == 1) (let e : k % 64 ≡ k = omega arith in e) ∙ ap (λ b. b == 1) (word_bit bytes index w is k low)) in
    let more = count_further (low_bit bytes) (64 * index) 64 in
    omega (arith, ones, same, more, before) ∙ ap (count_below (low_bit bytes)) (let e : 64 * index + 64 ≡ 64 * (index + 1) = omega arith in e)

-- each bit of the first words is one of the mask
abbrev pub AreWithin : List ℕ → List ℕ → ℕ → Type 0
AreWithin bytes mask index = (k : ℕ) → k < 64 * index → low_bit bytes k ≡ true → low_bit mask k ≡ true

pub within_more : (bytes mask : List ℕ) (index w v : ℕ) → IsWordOf bytes index w → IsWordOf mask index v → ((i : ℕ) → i < 64 → bit_at w i ≡ 1 → bit_at v i ≡ 1)
    → AreWithin bytes mask index → AreWithin bytes mask (index + 1)
within_more bytes mask index w v is of_mask inside before k low set = ⊎_elim
    (λ (old : k < 64 * index). before k old set)
    (λ (new : 64 * index ≤ k).
    let e : 64 * index + (k - 64 * index) ≡ k = omega arith in
    let one : bit_at w (k - 64 * index) ≡ 1 =
    word_bit bytes index w is (k - 64 * index) (omega arith) ∙ ap (λ n. bit_at (get_or bytes (n / 8) 0) (n % 8)) e ∙ eqb-true (bit_at (get_or bytes (k / 8) 0) (k % 8)) 1 set in
    eq-eqb (bit_at (get_or mask (k / 8) 0) (k % 8)) 1
    (sym (word_bit mask index v of_mask (k - 64 * index) (omega arith) ∙ ap (λ n. bit_at (get_or mask (n / 8) 0) (n % 8)) e) ∙ inside (k - 64 * index) (omega arith) one))
    (cases_lt k (64 * index))

-- a hole in the order of words
hole_low : (bytes : List ℕ) (j i : ℕ) → i < 8 → hole_at bytes 0 (8 * j + i) ≡ low_bit bytes (8 * j + (7 - i))
hole_low bytes j i low =
    hole_here bytes (8 * j + i)
    ∙ ap (λ n. bit_at (get_or bytes n 0) (7 - (8 * j + i) % 8) == 1) (let e : (8 * j + i) / 8 ≡ (8 * j + (7 - i)) / 8 = omega arith in e)
    ∙ ap (λ n. bit_at (get_or bytes ((8 * j + (7 - i)) / 8) 0) n == 1) (let e : 7 - (8 * j + i) % 8 ≡ (8 * j + (7 - i)) % 8 = omega arith in e)

hole_turned : (bytes : List ℕ) (h : ℕ) → hole_at bytes 0 h ≡ low_bit bytes (8 * (h / 8) + (7 - h % 8))
hole_turned bytes h = ap (hole_at bytes 0) (let e : h ≡ 8 * (h / 8) + h % 8 = omega arith in e) ∙ hole_low bytes (h / 8) (h % 8) (omega arith)

low_past : (bytes : List ℕ) (k : ℕ) → 8 * length bytes ≤ k → low_bit bytes k ≡ false
low_past bytes k past =
    ap (λ b. bit_at b (k % 8) == 1) (get_or_past bytes (k / 8) 0 (omega arith)) ∙ ap (λ b. b == 1) (bit_at-zero (k % 8))

-- all words were counted
pub holes_counted : (bytes : List ℕ) (index count : ℕ) → length bytes ≤ 8 * index → count ≡ count_below (low_bit bytes) (64 * index)
    → count ≡ count_below (hole_at bytes 0) (8 * length bytes)
holes_counted bytes index count long is =
    is ∙ count_rest (low_bit bytes) (8 * length bytes) (64 * index) (omega arith) (λ k from below. low_past bytes k from)
    ∙ sym (count_turned (hole_at bytes 0) (low_bit bytes) (hole_low bytes) (length bytes))

pub holes_within : (bytes mask : List ℕ) (index : ℕ) → length bytes ≤ 8 * index → AreWithin bytes mask index
    → (h : ℕ) → h < 8 * length bytes → hole_at bytes 0 h ≡ true → hole_at mask 0 h ≡ true
holes_within bytes mask index long within h low set =
    hole_turned mask h ∙ within (8 * (h / 8) + (7 - h % 8)) (omega arith) (sym (hole_turned bytes h) ∙ set)

-- the bits of a word that has none outside a mask
pub within_word : (word mask : ℕ) → mask < 2 ^ 64 → (bit_and word (bit_not w64 mask) == 0) ≡ true → (i : ℕ) → i < 64 → bit_at word i ≡ 1 → bit_at mask i ≡ 1
within_word word mask fits none i low set =
    let both = bit_at_and word (bit_not w64 mask) i in
    let turned = bit_at_not w64 mask i fits low in
    let clear : bit_at (bit_and word (bit_not w64 mask)) i ≡ 0 = ap (λ n. bit_at n i) (eqb-true (bit_and word (bit_not w64 mask)) 0 none) ∙ bit_at-zero i in
    let small = bit_at-lt mask i in
    omega (arith, both, turned, clear, set, small)

-- the holes of a row
pub holes_of_row : (row : List Bool) → count_by (λ b. b) row ≡ hole_count row
holes_of_row row = ap (count_by (λ b. b)) (line_is false row (length row) (hole_of row) refl (λ k h. refl)) ∙ count_line (length row) (hole_of row)
