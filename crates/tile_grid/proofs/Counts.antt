-- How many positions of a row are true.
use Rattle.std.proofs.Common.{◌≡◌, ◌≢◌, ℕ, zero, suc, ◌+◌, ◌-◌, ◌*◌, ◌/◌, ◌%◌, ◌^◌, ◌<◌, ◌≤◌, ◌==◌, Bool, false, cond, List, length, get_or, refl, sym, ap, ◌∙◌, count_by, arith, add-one}
use Rattle.std.specs.Int.{bit_at}
use Rattle.std.specs.Int.Count.{ones_step}
use Rattle.std.specs.Int.RustNames.{count_ones}
use Rattle.std.proofs.lemmas.Bool.Decides.{nat_tests}
use Rattle.std.proofs.lemmas.Nat.{mod_below, mod-pow-add, ones_cat, ones-le, pow_pos}
use Rattle.std.proofs.lemmas.Nat.Bits.{bit_at-lt}
use Rattle.mill_base.specs.Below.{count_below}
use Rattle.mill_base.specs.Bits.{bit_of, bits_of, HoldsRow}
use Rattle.mill_base.specs.Lines.{line_by}
use Rattle.mill_base.proofs.lemmas.Belows.{count_alike, count_next, count_rest, count_none}
use Rattle.mill_base.proofs.lemmas.BitCounts.{bit_in, counted, counted_word}
use Rattle.mill_base.proofs.lemmas.Lines.{line_is, sum_by-line_by_more}
use Rattle.mill_base.proofs.lemmas.Rows.{bit_is_cell, past_row}

counted_none : (f : ℕ → Bool) → count_by (λ b. b) (line_by 0 f) ≡ 0
unfolding line_by
counted_none f = refl

pub counted_line : (n : ℕ) (f : ℕ → Bool) → count_by (λ b. b) (line_by n f) ≡ count_below f n
counted_line zero f = counted_none f
counted_line (suc n) f =
    let e : suc n ≡ n + 1 = omega arith in
    ap (λ m. count_by (λ b. b) (line_by m f)) e ∙ sum_by-line_by_more (λ b. cond b 1 0) n f ∙ ap (λ m. m + cond (f n) 1 0) (counted_line n f)

pub counted_row : (row : List Bool) → count_by (λ b. b) row ≡ count_below (λ x. get_or row x false) (length row)
counted_row row = ap (count_by (λ b. b)) (line_is false row (length row) (λ x. get_or row x false) refl (λ k h. refl)) ∙ counted_line (length row) (λ x. get_or row x false)

counted_bits : (words : List ℕ) (n : ℕ) → counted words n ≡ count_below (bit_of words) n
unfolding bits_of
counted_bits words n = counted_line n (bit_of words)

-- one more word
pub count_word : (words : List ℕ) (i : ℕ) → get_or words i 0 < 2 ^ 64 → count_below (bit_of words) (64 * (i + 1)) ≡ count_below (bit_of words) (64 * i) + count_ones (get_or words i 0)
count_word words i fits =
    sym (counted_bits words (64 * (i + 1))) ∙ counted_word words i fits ∙ ap (λ m. m + count_ones (get_or words i 0)) (counted_bits words (64 * i))

-- one more bit of a word
ones_of_bit : (b : ℕ) → b < 2 → count_ones b ≡ b
ones_of_bit b h =
    omega (arith, ones_step b, ap count_ones (let e : b / 2 ≡ 0 = omega arith in e), ones-le 0 0 (omega arith))

ones_more : (n k : ℕ) → count_ones (n % 2 ^ (1 + k)) ≡ count_ones (n % 2 ^ k) + bit_at n k
ones_more n k =
    let parts = ones_cat k (n / 2 ^ k % 2) (n % 2 ^ k) (mod_below n (2 ^ k) (pow_pos k)) in
    let one = ones_of_bit (n / 2 ^ k % 2) (bit_at-lt n k) in
    ap count_ones (mod-pow-add n 1 k) ∙ parts ∙ omega arith

weight : (b : ℕ) → b < 2 → cond (b == 1) 1 0 ≡ b
weight b h = grind (arith, nat_tests)

-- some bits of one more word
pub count_in_word : (words : List ℕ) (i k : ℕ) → k ≤ 64 → count_below (bit_of words) (64 * i + k) ≡ count_below (bit_of words) (64 * i) + count_ones (get_or words i 0 % 2 ^ k)
count_in_word words i zero h =
    ap (count_below (bit_of words)) (let e : 64 * i + 0 ≡ 64 * i = omega arith in e)
    ∙ omega (arith, ones-le 0 0 (omega arith), ap count_ones (let e : get_or words i 0 % 1 ≡ 0 = omega arith in e))
count_in_word words i (suc k) h =
    let before = count_in_word words i k (omega arith) in
    let ones = ones_more (get_or words i 0) k in
    let bit = weight (bit_at (get_or words i 0) k) (bit_at-lt (get_or words i 0) k) in
    let more = count_next (bit_of words) (64 * i + k) (64 * i + suc k) (omega arith) ∙ ap (λ b. count_below (bit_of words) (64 * i + k) + cond b 1 0) (bit_in words i k (omega arith)) in
    more ∙ omega (arith, before, ones, bit) ∙ ap (λ m. count_below (bit_of words) (64 * i) + count_ones (get_or words i 0 % 2 ^ m)) (let e : 1 + k ≡ suc k = omega arith in e)

-- the bits of a row's words are counted as its positions
pub count_of_row : (words : List ℕ) (row : List Bool) (n : ℕ) → HoldsRow words row → count_below (bit_of words) n ≡ count_below (λ x. get_or row x false) n
count_of_row words row n holds = count_alike (bit_of words) (λ x. get_or row x false) n (λ k h. bit_is_cell words row holds k)

pub count_of_words : (words : List ℕ) (row : List Bool) → HoldsRow words row → count_below (bit_of words) (64 * length words) ≡ count_below (λ x. get_or row x false) (length row)
count_of_words words row holds =
    let enough = holds.room.enough in
    count_rest (bit_of words) (length row) (64 * length words) (omega arith) (λ k from below. past_row words (length row) holds.room k from) ∙ count_of_row words row (length row) holds

-- the numbers below a bound, and so many from there on
pub count_further : (f : ℕ → Bool) (a b : ℕ) → count_below f (a + b) ≡ count_below f a + count_below (λ k. f (a + k)) b
count_further f a zero = let e : a + 0 ≡ a = omega arith in rw e (omega arith)
count_further f a (suc b) =
    let e : a + suc b ≡ suc (a + b) = omega arith in
    let before = count_further f a b in
    rw e (omega arith)

-- where one number alone can pass
pub count_only : (f : ℕ → Bool) (n c : ℕ) → c < n → ((k : ℕ) → k < n → k ≢ c → f k ≡ false) → count_below f n ≡ cond (f c) 1 0
count_only f n c low others =
    let before : count_below f c ≡ 0 = count_none f c (λ k h. others k (omega arith) (omega arith)) in
    let here : count_below f (c + 1) ≡ count_below f c + cond (f c) 1 0 = rw add-one refl in
    count_rest f (c + 1) n (omega arith) (λ k from below. others k below (omega arith)) ∙ omega arith

-- more numbers have no fewer that pass
pub count_grows : (f : ℕ → Bool) (a b : ℕ) → a ≤ b → count_below f a ≤ count_below f b
count_grows f a b h =
    let e : a + (b - a) ≡ b = omega arith in
    let more = count_further f a (b - a) in
    let whole : count_below f (a + (b - a)) ≡ count_below f b = ap (count_below f) e in
    omega arith
