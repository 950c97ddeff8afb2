-- The first bit that is set.
use Rattle.std.proofs.Common.{◌≡◌, ◌+◌, ◌-◌, ◌*◌, ◌/◌, ◌%◌, ◌^◌, ◌<◌, ◌≤◌, ◌==◌, ℕ, Bool, false, List, length, get_or, sym, ap, ◌∙◌, ⊎_elim, w64, arith}
use Rattle.std.specs.Int.{bit_at, trailing_zeros}
use Rattle.std.proofs.lemmas.Bool.{both_ways, cases_lt}
use Rattle.std.proofs.lemmas.Nat.Bits.{bit_at-zero, bit_at-trailing_zeros, bit_at_above}
use Rattle.std.proofs.lemmas.List.{get_or_past}
use Rattle.mill_base.specs.Bits.{bit_of, bits_of, IsRow}
use Rattle.mill_base.specs.Firsts.{IsFirstTrue}
use Rattle.mill_base.specs.inner.FirstBits.{IsFirstSet}
use Rattle.mill_base.proofs.lemmas.Stretches.{cell_is}
use Rattle.mill_base.proofs.lemmas.WordBits.{bit_at_shr}

-- a word's bits from a place on
pub bit_ahead : (words : List ℕ) (at i : ℕ) → at % 64 + i < 64 → bit_at (get_or words (at / 64) 0 / 2 ^ (at % 64)) i ≡ bit_at (get_or words ((at + i) / 64) 0) ((at + i) % 64)
bit_ahead words at i within =
    bit_at_shr (get_or words (at / 64) 0) (at % 64) i
    ∙ ap (λ q. bit_at (get_or words q 0) (i + at % 64)) (let e : at / 64 ≡ (at + i) / 64 = omega arith in e)
    ∙ ap (bit_at (get_or words ((at + i) / 64) 0)) (let e : i + at % 64 ≡ (at + i) % 64 = omega arith in e)

-- a word that is zero from a place on has no bit there
pub none_here : (words : List ℕ) (from place word : ℕ) → ((i : ℕ) → place % 64 + i < 64 → (bit_at word i == 1) ≡ bit_of words (place + i)) → word ≡ 0
    → ((j : ℕ) → from ≤ j → j < place → bit_of words j ≡ false) → (j : ℕ) → from ≤ j → j < 64 * (place / 64 + 1) → bit_of words j ≡ false
none_here words from place word bits clear before j after within = ⊎_elim
    (λ (early : j < place). before j after early)
    (λ (late : place ≤ j).
    ap (bit_of words) (let e : j ≡ place + (j - place) = omega arith in e) ∙ sym (bits (j - place) (omega arith))
    ∙ ap (λ w. bit_at w (j - place) == 1) clear ∙ ap (λ b. b == 1) (bit_at-zero (j - place)))
    (cases_lt j place)

-- the lowest bit of a word that is not zero is the first from its place on
pub first_here : (words : List ℕ) (from place word : ℕ) → from ≤ place → ((i : ℕ) → place % 64 + i < 64 → (bit_at word i == 1) ≡ bit_of words (place + i))
    → ((i : ℕ) → 64 ≤ place % 64 + i → bit_at word i ≡ 0) → 0 < word → word < 2 ^ 64 → ((j : ℕ) → from ≤ j → j < place → bit_of words j ≡ false)
    → IsFirstSet words from (place + trailing_zeros w64 word)
first_here words from place word ahead bits past some fits before =
    let low = bit_at-trailing_zeros w64 word some fits in
    let one = low.1 in
    let within : place % 64 + trailing_zeros w64 word < 64 = ⊎_elim
    (λ (h : place % 64 + trailing_zeros w64 word < 64). h)
    (λ (h : 64 ≤ place % 64 + trailing_zeros w64 word). absurd (let none = past (trailing_zeros w64 word) h in omega arith))
    (cases_lt (place % 64 + trailing_zeros w64 word) 64) in
    record {
      ahead = omega arith;
      here = sym (bits (trailing_zeros w64 word) within) ∙ ap (λ b. b == 1) one;
      before = λ j after below. ⊎_elim
          (λ (early : j < place). before j after early)
          (λ (late : place ≤ j).
          ap (bit_of words) (let e : j ≡ place + (j - place) = omega arith in e) ∙ sym (bits (j - place) (omega arith))
          ∙ ap (λ b. b == 1) (low.2 (j - place) (omega arith)))
          (cases_lt j place);
    }

pub first_true : (words given : List ℕ) (n : ℕ) (row : List Bool) (from k : ℕ) → given ≡ words → IsRow words n → bits_of words n ≡ row → IsFirstSet given from k → IsFirstTrue row from k
first_true words given n row from k same room is first =
    let here = sym (cell_is words given n row same room is k) ∙ first.here in
    record {
      ahead = first.ahead;
      within = ⊎_elim (λ (h : k < length row). h) (λ (past : length row ≤ k). absurd (both_ways (get_or row k false) (get_or_past row k false past) here)) (cases_lt k (length row));
      here = here;
      before = λ j after below. sym (cell_is words given n row same room is j) ∙ first.before j after below;
    }

-- a word that is not zero has a bit
pub some_bit : (words : List ℕ) (i : ℕ) → 0 < get_or words i 0 → get_or words i 0 < 2 ^ 64 → ((k : ℕ) → k < 64 * (i + 1) → bit_of words k ≡ false) → ⊥
some_bit words i some fits none =
    let word = get_or words i 0 in
    let t = trailing_zeros w64 word in
    let one = (bit_at-trailing_zeros w64 word some fits).1 in
    let within : t < 64 = ⊎_elim
    (λ (h : t < 64). h)
    (λ (h : 64 ≤ t). absurd (let clear = bit_at_above word 64 t fits h in omega (arith, one, clear)))
    (cases_lt t 64) in
    let e : (64 * i + t) / 64 ≡ i = omega arith in
    let f : (64 * i + t) % 64 ≡ t = omega arith in
    both_ways (bit_of words (64 * i + t)) (none (64 * i + t) (omega arith))
    (ap (λ q. bit_at (get_or words q 0) ((64 * i + t) % 64) == 1) e ∙ ap (λ r. bit_at word r == 1) f ∙ ap (λ b. b == 1) one)
