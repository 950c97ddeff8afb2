-- Bytes of cells that equal their next, and the floats that hold one.
use Rattle.std.proofs.Common.{◌≡◌, ◌≢◌, ◌↔◌, ◌+◌, ◌-◌, ◌*◌, ◌/◌, ◌%◌, ◌<◌, ◌≤◌, ◌==◌, ℕ, Bool, true, false, List, length, get_or, replicate, refl, sym, ap, ◌∙◌, ⊎_elim, bit_and, bit_or, eqb-true, arith}
use Rattle.std.specs.Prelude.{pos}
use Rattle.std.specs.Int.{bit_at}
use Rattle.std.proofs.Math.Nat.{div-add-mod}
use Rattle.std.proofs.lemmas.Nat.{mod_below}
use Rattle.std.proofs.lemmas.Nat.Bits.{bit_at_and, bit_at_or, bit_at-lt, bit_at-zero}
use Rattle.std.proofs.lemmas.Bool.{both_ways, cases_lt, false_from_ne_true}
use Rattle.std.proofs.lemmas.List.{length-replicate, get_or-replicate}
use Rattle.mill_base.specs.Bits.{bit_of, HoldsRow}
use Rattle.mill_base.specs.Below.{all_below}
use Rattle.mill_base.specs.Lines.{cell_at, cell_round, same}
use Rattle.cloth_floats.specs.Cells.{limit_of}
use Rattle.cloth_floats.specs.Windows.{is_long_over, is_long, long_of}
use Rattle.mill_base.proofs.lemmas.Belows.{any_witness, all_at, same_below}
use Rattle.mill_base.proofs.lemmas.Lines.{line_is}
use Rattle.mill_base.proofs.lemmas.RoundLines.{same_cell, cell_here}
use Rattle.cloth_floats.proofs.Sames.{same-refl, same_is}
use Rattle.cloth_floats.proofs.Places.{windows_at_places}

pub bit_in_word : (words : List ℕ) (q i : ℕ) → i < 64 → bit_of words (64 * q + i) ≡ (bit_at (get_or words q 0) i == 1)
bit_in_word words q i h =
    ap (λ p. bit_at (get_or words p 0) ((64 * q + i) % 64) == 1) (let e : (64 * q + i) / 64 ≡ q = omega arith in e)
    ∙ ap (λ r. bit_at (get_or words q 0) r == 1) (let e : (64 * q + i) % 64 ≡ i = omega arith in e)

-- a bit that is set in one of two words
pub set_left : (a b i : ℕ) → bit_at a i ≡ 1 → bit_at (bit_or a b) i ≡ 1
set_left a b i h = omega (arith, h, bit_at_or a b i, bit_at-lt b i)

pub set_right : (a b i : ℕ) → bit_at b i ≡ 1 → bit_at (bit_or a b) i ≡ 1
set_right a b i h = omega (arith, h, bit_at_or a b i, bit_at-lt a i)

-- and one in both
pub set_both : (a b i : ℕ) → bit_at a i ≡ 1 → bit_at b i ≡ 1 → bit_at (bit_and a b) i ≡ 1
set_both a b i h k = omega (arith, h, k, bit_at_and a b i)

-- a byte of cells that equal their next is told
pub byte_told : (words : List ℕ) (q b word next nexts told : ℕ) → b < 8 → word ≡ get_or words q 0 → next ≡ get_or words (q + 1) 0
    → ((i : ℕ) → i < 63 → (bit_at nexts i == 1) ≡ same (bit_at word i == 1) (bit_at word (i + 1) == 1))
    → (bit_at nexts 63 == 1) ≡ same (bit_at word 63 == 1) (bit_at next 0 == 1)
    → ((i : ℕ) → i < 57 → bit_at told i ≡ 1 ↔ ((j : ℕ) → j < 8 → bit_at nexts (i + j) ≡ 1))
    → ((j : ℕ) → j < 8 → bit_of words (64 * q + 8 * b + j) ≡ bit_of words (64 * q + 8 * b + j + 1)) → bit_at told (8 * b) ≡ 1
byte_told words q b word next nexts told low word_is next_is inner last is even =
    (is (8 * b) (omega arith)).1 (λ j h. eqb-true (bit_at nexts (8 * b + j)) 1 (set j h)) where
      in_word : (i : ℕ) → i < 64 → bit_of words (64 * q + i) ≡ (bit_at word i == 1)
      in_word i h = bit_in_word words q i h ∙ ap (λ w. bit_at w i == 1) (sym word_is)

      set : (j : ℕ) → j < 8 → (bit_at nexts (8 * b + j) == 1) ≡ true
      set j h = ⊎_elim
          (λ (within : 8 * b + j < 63).
          inner (8 * b + j) within
          ∙ same-refl (bit_at word (8 * b + j) == 1) (bit_at word (8 * b + j + 1) == 1)
          (sym (in_word (8 * b + j) (omega arith)) ∙ ap (bit_of words) (let e : 64 * q + (8 * b + j) ≡ 64 * q + 8 * b + j = omega arith in e) ∙ even j h
          ∙ ap (bit_of words) (let e : 64 * q + 8 * b + j + 1 ≡ 64 * q + (8 * b + j + 1) = omega arith in e)
          ∙ in_word (8 * b + j + 1) (omega arith)))
          (λ (end : 63 ≤ 8 * b + j).
          ap (λ i. bit_at nexts i == 1) (let e : 8 * b + j ≡ 63 = omega arith in e) ∙ last
          ∙ same-refl (bit_at word 63 == 1) (bit_at next 0 == 1)
          (sym (in_word 63 (omega arith)) ∙ ap (bit_of words) (let e : 64 * q + 63 ≡ 64 * q + 8 * b + j = omega arith in e) ∙ even j h
          ∙ ap (bit_of words) (let e : 64 * q + 8 * b + j + 1 ≡ 64 * (q + 1) + 0 = omega arith in e)
          ∙ bit_in_word words (q + 1) 0 (omega arith) ∙ ap (λ w. bit_at w 0 == 1) (sym next_is)))
          (cases_lt (8 * b + j) 63)

-- the lowest bits of the bytes
pub byte_kept : (word b : ℕ) → b < 8 → bit_at word (8 * b) ≡ 1 → bit_and word 72340172838076673 ≢ 0
byte_kept word b low set none =
    let mask : bit_at 72340172838076673 (8 * b) ≡ 1 = same_below (λ b. bit_at 72340172838076673 (8 * b)) (λ b. 1) 8 refl b low in
    let kept : bit_at (bit_and word 72340172838076673) (8 * b) ≡ 1 = set_both word 72340172838076673 (8 * b) set mask in
    let clear : bit_at (bit_and word 72340172838076673) (8 * b) ≡ 0 = ap (λ w. bit_at w (8 * b)) none ∙ bit_at-zero (8 * b) in
    omega (arith, kept, clear)

-- where a line is long over a limit of 15 or more, some byte holds only cells that equal their next
pub even_byte : (line : List Bool) (limit k : ℕ) → k < length line → 15 ≤ limit → is_long_over line limit k ≡ true
    → (m : ℕ) × (8 * m < length line) × ((j : ℕ) → j < 8 → 8 * m + j + 1 < length line → get_or line (8 * m + j) false ≡ get_or line (8 * m + j + 1) false)
even_byte line limit k h far long = ⊎_elim
    (λ (ahead : 8 * ((p + 7) / 8) < n). ((p + 7) / 8, ahead, (λ j low within. here (8 * ((p + 7) / 8) + j) (omega arith) (omega arith) (omega arith) ∙ sym (here (8 * ((p + 7) / 8) + j + 1) (omega arith) (omega arith) (omega arith)))))
    (λ (past : n ≤ 8 * ((p + 7) / 8)). (0, (omega arith), (λ j low within. round (8 * 0 + j) (omega arith) (omega arith) ∙ sym (round (8 * 0 + j + 1) (omega arith) (omega arith)))))
    (cases_lt (8 * ((p + 7) / 8)) n) where
      n : ℕ
      n = length line

      windows : ℕ → Bool
      windows = λ (i : ℕ). all_below (λ j. same (cell_round line k) (cell_round line (k + length line * limit - i + j))) (limit + 1)

      found : (i : ℕ) × (i < limit + 1) × (windows i ≡ true)
      found = any_witness windows (limit + 1) (sym (windows_at_places line limit k (omega arith)) ∙ long)

      x : ℕ
      x = k + length line * limit - found.0

      p : ℕ
      p = x % n

      whole : n * (x / n) + p ≡ x
      whole = div-add-mod x n

      inside : p < n
      inside = mod_below x n (omega arith)

      cell : (j : ℕ) → j ≤ limit → cell_round line k ≡ cell_round line (x + j)
      cell j low = same_is (cell_round line k) (cell_round line (x + j)) (all_at (λ j. same (cell_round line k) (cell_round line (x + j))) (limit + 1) j found.2 (omega arith))

      here : (y : ℕ) → y < n → p ≤ y → y ≤ p + 15 → get_or line y false ≡ cell_round line k
      here y within from to =
          sym (cell_here line y within) ∙ same_cell line y (x + (y - p)) (x / n) 0 (omega (arith, whole)) ∙ sym (cell (y - p) (omega arith))

      round : (y : ℕ) → y < n → n + y ≤ p + 15 → get_or line y false ≡ cell_round line k
      round y within to =
          sym (cell_here line y within) ∙ same_cell line y (n + y) 1 0 (omega arith)
          ∙ same_cell line (n + y) (x + (n + y - p)) (x / n) 0 (omega (arith, whole, inside)) ∙ sym (cell (n + y - p) (omega (arith, inside)))

-- a line without such a byte is long nowhere
pub nowhere_over : (line : List Bool) (words : List ℕ) (some : Bool) → HoldsRow words line
    → ((m : ℕ) → 8 * m < length line → ((j : ℕ) → j < 8 → 8 * m + j + 1 < length line → bit_of words (8 * m + j) ≡ bit_of words (8 * m + j + 1)) → some ≡ true)
    → some ≡ false → (limit k : ℕ) → 15 ≤ limit → k < length line → is_long_over line limit k ≡ false
nowhere_over line words some holds told none limit k far h = false_from_ne_true (is_long_over line limit k) (λ long.
    let found = even_byte line limit k h far long in
    both_ways some none (told found.0 found.1 (λ j low within.
    holds.bits (8 * found.0 + j) (omega arith) ∙ found.2 j low within ∙ sym (holds.bits (8 * found.0 + j + 1) within))))

pub nowhere_long : (line : List Bool) (lifted unlifted k : ℕ) → is_long_over line lifted k ≡ false → is_long_over line unlifted k ≡ false → is_long line lifted unlifted k ≡ false
nowhere_long line lifted unlifted k on off = either (cell_at line (pos k)) where
  either : (cell : Bool) → is_long_over line (limit_of lifted unlifted cell) k ≡ false
  either true = on
  either false = off

pub all_false : (line : List Bool) (lifted unlifted : ℕ) → ((k : ℕ) → k < length line → is_long line lifted unlifted k ≡ false) → replicate (length line) false ≡ long_of line lifted unlifted
all_false line lifted unlifted none = line_is false (replicate (length line) false) (length line) (is_long line lifted unlifted) (length-replicate (length line) false)
    (λ k h. get_or-replicate (length line) k false false h ∙ sym (none k h))
