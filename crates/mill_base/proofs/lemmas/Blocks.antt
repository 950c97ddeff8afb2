-- Blocks of words, joined and turned bit by bit.
use Rattle.std.proofs.Common.{◌≡◌, ◌≢◌, ◌+◌, ◌-◌, ◌*◌, ◌/◌, ◌%◌, ◌^◌, ◌<◌, ◌≤◌, ◌==◌, ◌&&◌, ◌||◌, ℕ, zero, suc, Bool, false, not, cond, List, length, get_or, set, take, drop, ◌++◌, replicate, min, refl, sym, ap, subst, ◌∙◌, ⊎_elim, bit_and, length-set, get_or-set_same, get_or-set_other, arith}
use Rattle.std.specs.Int.{bit_at}
use lib.Bits.{bit_xor}
use Rattle.std.proofs.Math.Nat.{mod-eq_of_lt, mod-eq-sub-mod}
use Rattle.std.proofs.lemmas.Bool.{cases_lt, cases_eq, cond-true, cond-false}
use Rattle.std.proofs.lemmas.Bool.Decides.{nat_tests}
use Rattle.std.proofs.lemmas.List.{get_or-replicate, length-replicate, get_or_past, get_or-take, get_or-drop, length-append, length-drop, length-take-le, take_all}
use Rattle.std.proofs.lemmas.Slice.{take-put_mid_below, between-put_mid, drop-put_mid}
use Rattle.std.proofs.lemmas.Nat.Bits.{bit_at_and, bit_at_xor, bit_at-lt, bit_at-zero}
use Rattle.mill_base.specs.Bits.{bit_of, bits_of}
use Rattle.mill_base.specs.inner.Stretches.{AreLaid}
use Rattle.mill_base.specs.inner.Blocks.{IsAgain}
use Rattle.mill_base.specs.inner.Turnings.{Turned}
use Rattle.mill_base.specs.Lines.{cell_round, line_by, same}
use Rattle.mill_base.proofs.lemmas.Lines.{length-line_by, get_or-line_by}
use Rattle.mill_base.proofs.lemmas.Rows.{bits_are, length_is, get_or-bits_of}
use Rattle.mill_base.proofs.lemmas.Masks.{bit_negated}
use Rattle.mill_base.proofs.lemmas.RotatedRows.{bit_of_set_here, bit_of_set_others}

-- a bit of two words
pub bit_of_both : (a b i : ℕ) → (bit_at (bit_and a b) i == 1) ≡ ((bit_at a i == 1) && (bit_at b i == 1))
bit_of_both a b i = ap (λ n. n == 1) (bit_at_and a b i) ∙ both (bit_at a i) (bit_at b i) (bit_at-lt a i) (bit_at-lt b i) where
  both : (a b : ℕ) → a < 2 → b < 2 → (min a b == 1) ≡ ((a == 1) && (b == 1))
  both a b ha hb = grind (arith, nat_tests)

pub bit_of_alike : (a b i : ℕ) → a < 2 ^ 64 → i < 64 → (bit_at (bit_xor (2 ^ 64 - 1 - a) b) i == 1) ≡ same (bit_at a i == 1) (bit_at b i == 1)
bit_of_alike a b i fits within =
    ap (λ n. n == 1) (bit_at_xor (2 ^ 64 - 1 - a) b i)
    ∙ alike (bit_at a i) (bit_at b i) (bit_at (2 ^ 64 - 1 - a) i) (bit_at-lt a i) (bit_at-lt b i) (bit_at-lt (2 ^ 64 - 1 - a) i) (bit_negated a i fits within) where
      alike : (a b c : ℕ) → a < 2 → b < 2 → c < 2 → (c == 1) ≡ not (a == 1) → ((c + b) % 2 == 1) ≡ same (a == 1) (b == 1)
      alike zero b c ha hb hc e = let one : c ≡ 1 = grind (arith, nat_tests) in grind (arith, nat_tests)
      alike (suc zero) b c ha hb hc e = let none : c ≡ 0 = grind (arith, nat_tests) in grind (arith, nat_tests)
      alike (suc (suc a)) b c ha hb hc e = absurd (omega arith)

pub word_of_zeros : (count i : ℕ) → get_or (replicate {A = ℕ} count 0) i 0 ≡ 0
word_of_zeros count i = ⊎_elim
    (λ (h : i < count). get_or-replicate count i 0 0 h)
    (λ (h : count ≤ i). get_or_past (replicate {A = ℕ} count 0) i 0 (subst (λ n. n ≤ i) (sym (length-replicate {A = ℕ} count 0)) h))
    (cases_lt i count)

-- a bit of a word of a list
pub bit_of_word : (words others : List ℕ) (k : ℕ) → get_or words (k / 64) 0 ≡ get_or others (k / 64) 0 → bit_of words k ≡ bit_of others k
bit_of_word words others k e = ap (λ w. bit_at w (k % 64) == 1) e

pub clear_in : (words : List ℕ) (k : ℕ) → get_or words (k / 64) 0 ≡ 0 → bit_of words k ≡ false
clear_in words k e = ap (λ w. bit_at w (k % 64) == 1) e ∙ ap (λ b. b == 1) (bit_at-zero (k % 64))

-- one more word is laid
pub word_laid : (old mid : List ℕ) (at done word : ℕ) (cell : ℕ → Bool) → at + done < length old → AreLaid old (64 * at) (64 * done) cell mid
    → ((i : ℕ) → i < 64 → (bit_at word i == 1) ≡ cell (64 * done + i)) → AreLaid old (64 * at) (64 * (done + 1)) cell (set mid (at + done) word)
word_laid old mid at done word cell there before is = record {
  len = length-set mid (at + done) word ∙ before.len;
  here = λ i h. ⊎_elim
      (λ (early : i < 64 * done). bit_of_set_others mid (at + done) word (64 * at + i) (omega arith) ∙ before.here i early)
      (λ (late : 64 * done ≤ i).
      bit_of_set_here mid (at + done) word (64 * at + i) (let e = before.len in omega arith) (omega arith)
      ∙ is ((64 * at + i) % 64) (omega arith) ∙ ap cell (omega arith))
      (cases_lt i (64 * done));
  below = λ k h. bit_of_set_others mid (at + done) word k (omega arith) ∙ before.below k h;
  past = λ k h. bit_of_set_others mid (at + done) word k (omega arith) ∙ before.past k (omega arith);
}

-- one more word is moved down
pub word_moved : (from out : List ℕ) (shift i word : ℕ) → i < length out → shift < 64
    → ((j : ℕ) → j + shift < 64 → bit_at word j ≡ bit_at (get_or from i 0) (j + shift))
    → ((j : ℕ) → j < 64 → 64 ≤ j + shift → bit_at word j ≡ bit_at (get_or from (i + 1) 0) (j + shift - 64))
    → ((k : ℕ) → k < 64 * i → bit_of out k ≡ bit_of from (shift + k))
    → (k : ℕ) → k < 64 * (i + 1) → bit_of (set out i word) k ≡ bit_of from (shift + k)
word_moved from out shift i word there within low high before k h = ⊎_elim
    (λ (at : k / 64 ≡ i).
    bit_of_set_here out i word k there at ∙ ⊎_elim
    (λ (inner : k % 64 + shift < 64). ap (λ b. b == 1) (low (k % 64) inner) ∙ place i (k % 64 + shift) (omega arith) (omega arith))
    (λ (outer : 64 ≤ k % 64 + shift).
    ap (λ b. b == 1) (high (k % 64) (omega arith) outer) ∙ place (i + 1) (k % 64 + shift - 64) (omega arith) (omega arith))
    (cases_lt (k % 64 + shift) 64))
    (λ (off : k / 64 ≢ i). bit_of_set_others out i word k off ∙ before k (omega arith))
    (cases_eq (k / 64) i) where
      place : (q r : ℕ) → (shift + k) / 64 ≡ q → (shift + k) % 64 ≡ r → (bit_at (get_or from q 0) r == 1) ≡ bit_of from (shift + k)
      place q r e f = ap (λ r. bit_at (get_or from q 0) r == 1) (sym f) ∙ ap (λ q. bit_at (get_or from q 0) ((shift + k) % 64) == 1) (sym e)

-- the bits of words behind the first
pub bit_dropped : (words : List ℕ) (some first k : ℕ) → length words ≤ some + first → bit_of (take some (drop first words)) k ≡ bit_of words (64 * first + k)
bit_dropped words some first k all =
    let long = length-drop first words in
    ap (λ l. bit_of l k) (take_all some (drop first words) (omega arith))
    ∙ ap (λ w. bit_at w (k % 64) == 1) (get_or-drop first words (k / 64) 0)
    ∙ ap (λ q. bit_at (get_or words q 0) (k % 64) == 1) (let e : first + k / 64 ≡ (64 * first + k) / 64 = omega arith in e)
    ∙ ap (λ r. bit_at (get_or words ((64 * first + k) / 64) 0) r == 1) (let e : k % 64 ≡ (64 * first + k) % 64 = omega arith in e)

-- words are put in place of others
pub part_laid : (old part : List ℕ) (at k count : ℕ) (cell : ℕ → Bool) → at + count ≤ length old → k ≡ count → length part ≡ count → ((i : ℕ) → i < 64 * count → bit_of part i ≡ cell i)
    → AreLaid old (64 * at) (64 * count) cell (take at old ++ (part ++ drop k (drop at old)))
part_laid old part at k count cell room is long bits = record {
  len = omega (arith, length-append (take at old) (part ++ drop k (drop at old)), length-append part (drop k (drop at old)), length-take-le at old (omega arith), length-drop at old, length-drop k (drop at old));
  here = λ i h.
      ap (λ q. bit_at (get_or new q 0) ((64 * at + i) % 64) == 1) (let e : (64 * at + i) / 64 ≡ at + i / 64 = omega arith in e)
      ∙ ap (λ r. bit_at (get_or new (at + i / 64) 0) r == 1) (let e : (64 * at + i) % 64 ≡ i % 64 = omega arith in e)
      ∙ ap (λ w. bit_at w (i % 64) == 1) (within (i / 64) (omega arith)) ∙ bits i h;
  below = λ j h. bit_of_word new old j (before (j / 64) (omega arith));
  past = λ j h. bit_of_word new old j (behind (j / 64) (omega arith));
} where
  new : List ℕ
  new = take at old ++ (part ++ drop k (drop at old))

  before : (j : ℕ) → j < at → get_or new j 0 ≡ get_or old j 0
  before j h = sym (get_or-take at new j 0 h) ∙ ap (λ l. get_or l j 0) (take-put_mid_below at k old part at (omega arith) (omega arith)) ∙ get_or-take at old j 0 h

  within : (j : ℕ) → j < count → get_or new (at + j) 0 ≡ get_or part j 0
  within j h = sym (get_or-drop at new j 0) ∙ sym (get_or-take (at + count - at) (drop at new) j 0 (omega arith))
      ∙ ap (λ l. get_or l j 0) (between-put_mid at k old part (at + count) (omega arith) (omega arith))

  behind : (j : ℕ) → at + count ≤ j → get_or new j 0 ≡ get_or old j 0
  behind j h =
      let i = j - (at + count) in
      let e : j ≡ at + count + i = omega arith in
      ap (λ q. get_or new q 0) e ∙ sym (get_or-drop (at + count) new i 0) ∙ ap (λ l. get_or l i 0) (drop-put_mid at k old part (at + count) (omega arith) (omega arith) (omega arith))
      ∙ get_or-drop (at + count) old i 0 ∙ ap (λ q. get_or old q 0) (sym e)

-- one more word is written into an empty block
pub record AreCopied (from : List ℕ) (size count : ℕ) (words : List ℕ) : Type 0 where
  pub long : length words ≡ size
  pub done : (i : ℕ) → i < count → get_or words i 0 ≡ get_or from i 0
  pub rest : (i : ℕ) → count ≤ i → get_or words i 0 ≡ 0

pub none_copied : (from : List ℕ) (size : ℕ) → AreCopied from size 0 (replicate size 0)
none_copied from size = record { long = length-replicate {A = ℕ} size 0; done = λ i h. absurd (omega arith); rest = λ i h. word_of_zeros size i }

pub one_copied : (from words : List ℕ) (size count : ℕ) → count < size → AreCopied from size count words → AreCopied from size (count + 1) (set words count (get_or from count 0))
one_copied from words size count there before = record {
  long = length-set words count (get_or from count 0) ∙ before.long;
  done = λ i h. ⊎_elim
      (λ (here : i ≡ count). rw here (get_or-set_same words count (get_or from count 0) 0 (let long = before.long in omega arith)))
      (λ (off : i ≢ count). get_or-set_other words count i (get_or from count 0) 0 off ∙ before.done i (omega arith))
      (cases_eq i count);
  rest = λ i h. get_or-set_other words count i (get_or from count 0) 0 (omega arith) ∙ before.rest i (omega arith);
}

pub bit_copied : (from words : List ℕ) (size k : ℕ) → AreCopied from size (length from) words → bit_of words k ≡ bit_of from k
bit_copied from words size k copied = bit_of_word words from k (⊎_elim
    (λ (h : k / 64 < length from). copied.done (k / 64) h)
    (λ (h : length from ≤ k / 64). copied.rest (k / 64) h ∙ sym (get_or_past from (k / 64) 0 h))
    (cases_lt (k / 64) (length from)))

-- a line's start stands again behind its end
pub line_turned : (words zeros first second third out : List ℕ) (len by count : ℕ) → by ≤ len → count ≡ (len + 63) / 64 → ((k : ℕ) → len ≤ k → bit_of words k ≡ false)
    → AreLaid zeros 0 (64 * ((len - by + 63) / 64)) (λ i. bit_of words (by + i)) first
    → AreLaid first (64 * ((len - by + 63) / 64)) (64 * (count - (len - by + 63) / 64)) (λ i. bit_of words (64 * ((len - by + 63) / 64) - (len - by) + i)) second
    → IsAgain words second (len - by) third
    → ((k : ℕ) → k < len → bit_of out k ≡ bit_of third k)
    → Turned words len by out len
line_turned words zeros first second third out len by count within many clear ahead round again below = record {
  ahead = λ k h before.
      below k h ∙ again.below k (omega arith) ∙ round.below k (omega arith)
      ∙ ap (bit_of first) (let e : k ≡ 0 + k = omega arith in e) ∙ ahead.here k (omega arith) ∙ ap (bit_of words) (omega arith);
  round = λ k h _ behind. below k h ∙ ⊎_elim
      (λ (inner : k < 64 * ((len - by + 63) / 64)).
      again.within k (omega arith) inner
      ∙ ap (λ b. b || bit_of words (k - (len - by)))
      (round.below k inner ∙ ap (bit_of first) (let e : k ≡ 0 + k = omega arith in e) ∙ ahead.here k inner ∙ clear (by + k) (omega arith))
      ∙ ap (bit_of words) (omega arith))
      (λ (outer : 64 * ((len - by + 63) / 64) ≤ k).
      again.past k outer ∙ ap (bit_of second) (let e : k ≡ 64 * ((len - by + 63) / 64) + (k - 64 * ((len - by + 63) / 64)) = omega arith in e)
      ∙ round.here (k - 64 * ((len - by + 63) / 64)) (omega arith) ∙ ap (bit_of words) (omega arith))
      (cases_lt k (64 * ((len - by + 63) / 64)));
}

-- a bit under a mask
pub bit_merged : (mask inside outside word i : ℕ) → (bit_at mask i ≡ 0 → bit_at word i ≡ bit_at outside i) → (bit_at mask i ≡ 1 → bit_at word i ≡ bit_at inside i)
    → (bit_at word i == 1) ≡ cond (bit_at mask i == 1) (bit_at inside i == 1) (bit_at outside i == 1)
bit_merged mask inside outside word i out within = ⊎_elim
    (λ (set : bit_at mask i ≡ 1).
    ap (λ b. b == 1) (within set) ∙ sym (cond-true (bit_at mask i == 1) (bit_at inside i == 1) (bit_at outside i == 1) (ap (λ b. b == 1) set)))
    (λ (off : bit_at mask i ≢ 1).
    let none : bit_at mask i ≡ 0 = omega (arith, bit_at-lt mask i) in
    ap (λ b. b == 1) (out none) ∙ sym (cond-false (bit_at mask i == 1) (bit_at inside i == 1) (bit_at outside i == 1) (ap (λ b. b == 1) none)))
    (cases_eq (bit_at mask i) 1)

-- the words so far are merged under a mask, and the others are clear
pub record AreMerged (mask inside outside : List ℕ) (size count : ℕ) (words : List ℕ) : Type 0 where
  pub long : length words ≡ size
  pub here : (k : ℕ) → k < 64 * count → bit_of words k ≡ cond (bit_of mask k) (bit_of inside k) (bit_of outside k)
  pub past : (k : ℕ) → 64 * count ≤ k → bit_of words k ≡ false

pub none_merged : (mask inside outside : List ℕ) (size : ℕ) → AreMerged mask inside outside size 0 (replicate size 0)
none_merged mask inside outside size = record { long = length-replicate {A = ℕ} size 0; here = λ k h. absurd (omega arith); past = λ k h. clear_in (replicate size 0) k (word_of_zeros size (k / 64)) }

pub one_merged : (mask inside outside words : List ℕ) (size count word : ℕ) → count < size
    → ((i : ℕ) → i < 64 → bit_at (get_or mask count 0) i ≡ 0 → bit_at word i ≡ bit_at (get_or outside count 0) i)
    → ((i : ℕ) → i < 64 → bit_at (get_or mask count 0) i ≡ 1 → bit_at word i ≡ bit_at (get_or inside count 0) i)
    → AreMerged mask inside outside size count words → AreMerged mask inside outside size (count + 1) (set words count word)
one_merged mask inside outside words size count word there out within before = record {
  long = length-set words count word ∙ before.long;
  here = λ k h. ⊎_elim
      (λ (at : k / 64 ≡ count).
      bit_of_set_here words count word k (let long = before.long in omega arith) at
      ∙ bit_merged (get_or mask count 0) (get_or inside count 0) (get_or outside count 0) word (k % 64) (out (k % 64) (omega arith)) (within (k % 64) (omega arith))
      ∙ ap (λ q. cond (bit_at (get_or mask q 0) (k % 64) == 1) (bit_at (get_or inside q 0) (k % 64) == 1) (bit_at (get_or outside q 0) (k % 64) == 1)) (sym at))
      (λ (off : k / 64 ≢ count). bit_of_set_others words count word k off ∙ before.here k (omega arith))
      (cases_eq (k / 64) count);
  past = λ k h. bit_of_set_others words count word k (omega arith) ∙ before.past k (omega arith);
}

-- a word with the start of a line in it
pub word_again : (line old : List ℕ) (behind word : ℕ) → behind / 64 < length old
    → ((i : ℕ) → i < behind % 64 → bit_at word i ≡ bit_at (get_or old (behind / 64) 0) i)
    → ((i : ℕ) → behind % 64 ≤ i → i < 64 → (bit_at word i == 1) ≡ ((bit_at (get_or old (behind / 64) 0) i == 1) || (bit_at (get_or line 0 0) (i - behind % 64) == 1)))
    → 0 < behind % 64 → IsAgain line old behind (set old (behind / 64) word)
word_again line old behind word there below above some = record {
  below = λ k h. ⊎_elim
      (λ (at : k / 64 ≡ behind / 64).
      bit_of_set_here old (behind / 64) word k there at ∙ ap (λ b. b == 1) (below (k % 64) (omega arith)) ∙ ap (λ q. bit_at (get_or old q 0) (k % 64) == 1) (sym at))
      (λ (off : k / 64 ≢ behind / 64). bit_of_set_others old (behind / 64) word k off)
      (cases_eq (k / 64) (behind / 64));
  within = λ k h inner.
      let at : k / 64 ≡ behind / 64 = omega arith in
      let start : (k - behind) / 64 ≡ 0 = omega arith in
      let off : (k - behind) % 64 ≡ k % 64 - behind % 64 = omega arith in
      bit_of_set_here old (behind / 64) word k there at ∙ above (k % 64) (omega arith) (omega arith)
      ∙ ap (λ q. (bit_at (get_or old q 0) (k % 64) == 1) || (bit_at (get_or line 0 0) (k % 64 - behind % 64) == 1)) (sym at)
      ∙ ap (λ q. bit_of old k || (bit_at (get_or line q 0) (k % 64 - behind % 64) == 1)) (sym start)
      ∙ ap (λ i. bit_of old k || (bit_at (get_or line ((k - behind) / 64) 0) i == 1)) (sym off);
  past = λ k h. bit_of_set_others old (behind / 64) word k (omega arith);
}

pub no_rest : (line old : List ℕ) (behind : ℕ) → behind % 64 ≡ 0 → IsAgain line old behind old
no_rest line old behind none = record { below = λ k h. refl; within = λ k h inner. absurd (omega arith); past = λ k h. refl }

-- bits as a line
pub line_is : (words : List ℕ) (n : ℕ) (row : List Bool) (cell : ℕ → Bool) → bits_of words n ≡ row → (new : List ℕ) → ((k : ℕ) → k < n → bit_of new k ≡ cell k)
    → bits_of new n ≡ line_by (length row) cell
line_is words n row cell is new each =
    let long = length_is words n row is in
    sym (bits_are (line_by (length row) cell) new n (length-line_by (length row) cell ∙ sym long)
    (λ k h. get_or-line_by (length row) cell k false (omega arith) ∙ sym (each k h)))

-- a bit of a line's words is its cell
pub cell_of : (words : List ℕ) (n k : ℕ) (row : List Bool) → bits_of words n ≡ row → k < n → bit_of words k ≡ get_or row k false
cell_of words n k row is h = sym (get_or-bits_of words n k false h) ∙ ap (λ cells. get_or cells k false) is

pub cell_turned : (words out : List ℕ) (n by k : ℕ) (row : List Bool) → by ≤ n → bits_of words n ≡ row → Turned words n by out n → k < n → bit_of out k ≡ cell_round row (k + by)
cell_turned words out n by k row within is turned h = ⊎_elim
    (λ (ahead : k + by < n). turned.ahead k h ahead ∙ place (k + by) ahead (mod-eq_of_lt ahead))
    (λ (round : n ≤ k + by).
    let inner : k + by - n < n = omega arith in
    turned.round k h h round ∙ place (k + by - n) inner (mod-eq-sub-mod round ∙ mod-eq_of_lt inner))
    (cases_lt (k + by) n) where
      place : (j : ℕ) → j < n → (k + by) % n ≡ j → bit_of words j ≡ cell_round row (k + by)
      place j there e = cell_of words n j row is there ∙ ap (λ i. get_or row i false) (sym e ∙ ap (λ m. (k + by) % m) (length_is words n row is))

-- a line joined with itself, turned
pub line_joined : (cell : Bool → Bool → Bool) (words turned new : List ℕ) (n by : ℕ) (row : List Bool) → by ≤ n → bits_of words n ≡ row → Turned words n by turned n
    → ((k : ℕ) → k < n → bit_of new k ≡ cell (bit_of words k) (bit_of turned k)) → bits_of new n ≡ line_by (length row) (λ k. cell (get_or row k false) (cell_round row (k + by)))
line_joined cell words turned new n by row within is round each =
    line_is words n row (λ k. cell (get_or row k false) (cell_round row (k + by))) is new
    (λ k h. each k h
    ∙ ap (λ b. cell b (bit_of turned k)) (cell_of words n k row is h)
    ∙ ap (cell (get_or row k false)) (cell_turned words turned n by k row within is round h))
