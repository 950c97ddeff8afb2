-- How many bits are set.
use Rattle.std.proofs.Common.{◌≡◌, ◌+◌, ◌-◌, ◌*◌, ◌/◌, ◌%◌, ◌^◌, ◌<◌, ◌≤◌, ◌==◌, ℕ, zero, suc, false, cond, List, get_or, refl, ap, ◌∙◌, count_by, arith}
use Rattle.std.specs.Int.{bit_at}
use Rattle.std.specs.Int.RustNames.{count_ones}
use Rattle.std.specs.Int.Count.{ones_step}
use Rattle.std.proofs.lemmas.Bool.Decides.{nat_tests}
use Rattle.std.proofs.lemmas.Nat.{ones_cat, ones-le, pow_pos, mod_below, mod-pow-add}
use Rattle.std.proofs.lemmas.Nat.Bits.{bit_at-lt}
use Rattle.std.proofs.Math.Nat.{mod-eq_of_lt}
use Rattle.std.proofs.lemmas.List.Sums.{count_by-le-length}
use Rattle.mill_base.specs.Lines.{line_by}
use Rattle.mill_base.proofs.lemmas.Lines.{sum_by-line_by_more}
use Rattle.mill_base.proofs.lemmas.Rows.{length-bits_of}
use Rattle.mill_base.specs.Bits.{bit_of, bits_of}

abbrev pub counted : List ℕ → ℕ → ℕ
counted words n = count_by (λ b. b) (bits_of words n)

pub counted_none : (words : List ℕ) → counted words 0 ≡ 0
unfolding bits_of line_by
counted_none words = refl

counted_more : (words : List ℕ) (n : ℕ) → counted words (n + 1) ≡ counted words n + cond (bit_of words n) 1 0
unfolding bits_of
counted_more words n = sum_by-line_by_more (λ b. cond b 1 0) n (bit_of words)

none_of_zero : count_ones 0 ≡ 0
none_of_zero = let h = ones-le 0 0 (omega arith) in omega arith

ones_of_bit : (b : ℕ) → b < 2 → count_ones b ≡ b
ones_of_bit b h = omega (arith, ones_step b, ap count_ones (let e : b / 2 ≡ 0 = omega arith in e), none_of_zero)

-- one more bit of a word
ones_more : (n k : ℕ) → count_ones (n % 2 ^ (1 + k)) ≡ count_ones (n % 2 ^ k) + bit_at n k
ones_more n k =
    let bit = bit_at-lt n k in
    let parts = ones_cat k (n / 2 ^ k % 2) (n % 2 ^ k) (mod_below n (2 ^ k) (pow_pos k)) in
    let one = ones_of_bit (n / 2 ^ k % 2) bit in
    ap count_ones (mod-pow-add n 1 k) ∙ parts ∙ omega arith

weight : (b : ℕ) → b < 2 → cond (b == 1) 1 0 ≡ b
weight b h = grind (arith, nat_tests)

pub bit_in : (words : List ℕ) (i k : ℕ) → k < 64 → bit_of words (64 * i + k) ≡ (bit_at (get_or words i 0) k == 1)
bit_in words i k h =
    ap (λ q. bit_at (get_or words q 0) ((64 * i + k) % 64) == 1) (let e : (64 * i + k) / 64 ≡ i = omega arith in e)
    ∙ ap (λ r. bit_at (get_or words i 0) r == 1) (let e : (64 * i + k) % 64 ≡ k = omega arith in e)

counted_in : (words : List ℕ) (i k : ℕ) → k ≤ 64 → counted words (64 * i + k) ≡ counted words (64 * i) + count_ones (get_or words i 0 % 2 ^ k)
counted_in words i zero h =
    ap (counted words) (let e : 64 * i + 0 ≡ 64 * i = omega arith in e)
    ∙ omega (arith, none_of_zero, ap count_ones (let e : get_or words i 0 % 1 ≡ 0 = omega arith in e))
counted_in words i (suc k) h =
    let before = counted_in words i k (omega arith) in
    let ones = ones_more (get_or words i 0) k in
    let bit = weight (bit_at (get_or words i 0) k) (bit_at-lt (get_or words i 0) k) in
    let more = counted_more words (64 * i + k) ∙ ap (λ b. counted words (64 * i + k) + cond b 1 0) (bit_in words i k (omega arith)) in
    ap (counted words) (let e : 64 * i + suc k ≡ 64 * i + k + 1 = omega arith in e)
    ∙ more ∙ omega (arith, before, ones, bit) ∙ ap (λ m. counted words (64 * i) + count_ones (get_or words i 0 % 2 ^ m)) (let e : 1 + k ≡ suc k = omega arith in e)

-- one more word
pub counted_word : (words : List ℕ) (i : ℕ) → get_or words i 0 < 2 ^ 64 → counted words (64 * (i + 1)) ≡ counted words (64 * i) + count_ones (get_or words i 0)
counted_word words i fits =
    ap (counted words) (let e : 64 * (i + 1) ≡ 64 * i + 64 = omega arith in e) ∙ counted_in words i 64 (omega arith)
    ∙ ap (λ n. counted words (64 * i) + count_ones n) (mod-eq_of_lt fits)

past : (words : List ℕ) (n d : ℕ) → ((k : ℕ) → n ≤ k → bit_of words k ≡ false) → counted words (n + d) ≡ counted words n
past words n zero clear = ap (counted words) (let e : n + 0 ≡ n = omega arith in e)
past words n (suc d) clear =
    ap (counted words) (let e : n + suc d ≡ n + d + 1 = omega arith in e) ∙ counted_more words (n + d)
    ∙ ap (λ b. counted words (n + d) + cond b 1 0) (clear (n + d) (omega arith)) ∙ (let e : counted words (n + d) + 0 ≡ counted words (n + d) = omega arith in e) ∙ past words n d clear

-- clear bits past a place do not count
pub counted_past : (words : List ℕ) (n m : ℕ) → n ≤ m → ((k : ℕ) → n ≤ k → bit_of words k ≡ false) → counted words m ≡ counted words n
counted_past words n m h clear = ap (counted words) (let e : m ≡ n + (m - n) = omega arith in e) ∙ past words n (m - n) clear

pub counted_few : (words : List ℕ) (n : ℕ) → counted words n ≤ n
counted_few words n = let few = count_by-le-length (λ b. b) (bits_of words n) in let long = length-bits_of words n in omega arith
