-- Words that hold cells of a line.
use Rattle.std.proofs.lemmas.Nat.{mod_below}
use Rattle.std.proofs.Common.{◌≡◌, ℕ, zero, suc, ◌+◌, ◌-◌, ◌*◌, ◌/◌, ◌%◌, ◌^◌, ◌<◌, ◌≤◌, ◌==◌, Bool, false, bit_or, min, max, not, ltb, pos, ◌-ℤ◌, [], length, get_or, refl, sym, ap, ◌∙◌, arith, ⊎_elim}
use Rattle.std.proofs.lemmas.Bool.{cases_lt}
use Rattle.std.proofs.lemmas.Bool.Decides.{nat_tests}
use Rattle.std.proofs.lemmas.Nat.Bits.{bit_at_or, bit_at-lt, bit_at_above}
use Rattle.std.specs.Int.{bit_at}
use Rattle.mill_base.proofs.lemmas.WordBits.{bit_at_shr, bit_at_shl_from, bit_at_shl_below, bit_at_or_left, bit_at_or_right}
use Rattle.std.proofs.Math.Nat.{mod-add-div', add-mod_right, add-mul-mod_self_right, mul-add}
use Rattle.weave_book.proofs.Remainders.{remainder_of_difference}
use Rattle.mill_base.specs.Lines.{remainder}
use Rattle.weave_book.specs.Weaves.{mark, binds}
use Rattle.weave_book.specs.declared.weaves.Direction.TheVariants.{Right, Left}
use Rattle.weave_book.specs.declared.weaves.SatinFace.TheVariants.{Weft, Warp}
use Rattle.weave_book.specs.declared.weaves.Weave.{Weave}
use Rattle.weave_book.specs.declared.weaves.Weave.TheVariants.{Blank, Full, Plain, Twill, Satin, Rows}
use Rattle.weave_book.specs.inner.Parts.{AreCells, Repeats, repeat_of}

-- a line that comes again after n places comes again after each multiple of n
pub repeats_often : (line : ℕ → Bool) (n k x : ℕ) → Repeats line n → line (x + k * n) ≡ line x
repeats_often line n zero x again = let e : x + 0 * n ≡ x = omega arith in ap line e
repeats_often line n (suc k) x again = let e : x + suc k * n ≡ x + k * n + n = omega arith in ap line e ∙ again (x + k * n) ∙ repeats_often line n k x again

pub repeats_twice : (line : ℕ → Bool) (n : ℕ) → Repeats line n → Repeats line (n * 2)
repeats_twice line n again x = let e : x + n * 2 ≡ x + n + n = omega arith in ap line e ∙ again (x + n) ∙ again x

-- the lowest n bits, once more above themselves
pub spread_past : (word n j : ℕ) → ((i : ℕ) → n ≤ i → i < 64 → bit_at word i ≡ 0) → n * 2 ≤ j → j < 64 → bit_at (bit_or word (word * 2 ^ n % 2 ^ 64)) j ≡ 0
spread_past word n j past h within =
    bit_at_or_right word (word * 2 ^ n % 2 ^ 64) j (past j (omega arith) within) ∙ bit_at_shl_from word n 64 j (omega arith) within ∙ past (j - n) (omega arith) (omega arith)

pub spread_cells : (line : ℕ → Bool) (from word n : ℕ) → ((i : ℕ) → n ≤ i → i < 64 → bit_at word i ≡ 0) → Repeats line n → AreCells line from (min n 64) word
    → AreCells line from (min (n * 2) 64) (bit_or word (word * 2 ^ n % 2 ^ 64))
spread_cells line from word n past again cells j h = ⊎_elim
    (λ (low : j < n). ap (λ b. b == 1) (bit_at_or_left word (word * 2 ^ n % 2 ^ 64) j (bit_at_shl_below word n 64 j low (omega arith))) ∙ cells j (omega arith))
    (λ (high : n ≤ j). ap (λ b. b == 1) (bit_at_or_right word (word * 2 ^ n % 2 ^ 64) j (past j high (omega arith)) ∙ bit_at_shl_from word n 64 j high (omega arith))
    ∙ cells (j - n) (omega arith) ∙ sym (again (from + (j - n))) ∙ (let e : from + (j - n) + n ≡ from + j = omega arith in ap line e))
    (cases_lt j n)

-- one bit or another, of which each is the same cell
either : (a b : ℕ) (cell : Bool) → (a == 1) ≡ cell → (b == 1) ≡ cell → a < 2 → b < 2 → (max a b == 1) ≡ cell
either a b cell one other ha hb = grind (arith, nat_tests)

-- a word moved up by n in two steps
moved_up : (word n j : ℕ) → n < 64 → n + 1 ≤ j → j < 64 → bit_at (word * 2 ^ n % 2 ^ 64 * 2 ^ 1 % 2 ^ 64) j ≡ bit_at word (j - (n + 1))
moved_up word n j few from within =
    bit_at_shl_from (word * 2 ^ n % 2 ^ 64) 1 64 j (omega arith) within ∙ bit_at_shl_from word n 64 (j - 1) (omega arith) (omega arith) ∙ ap (bit_at word) (omega arith)

moved_up_below : (word n j : ℕ) → n < 64 → j < n + 1 → j < 64 → bit_at (word * 2 ^ n % 2 ^ 64 * 2 ^ 1 % 2 ^ 64) j ≡ 0
moved_up_below word n j few below within = ⊎_elim
    (λ (first : j < 1). bit_at_shl_below (word * 2 ^ n % 2 ^ 64) 1 64 j first within)
    (λ (next : 1 ≤ j). bit_at_shl_from (word * 2 ^ n % 2 ^ 64) 1 64 j next within ∙ bit_at_shl_below word n 64 (j - 1) (omega arith) (omega arith))
    (cases_lt j 1)

-- the cells `by` places further on, where the line comes again after n
turned_by : (line : ℕ → Bool) (word n by : ℕ) → word < 2 ^ 64 → n ≤ 64 → by < n → Repeats line n → AreCells line 0 64 word
    → AreCells line by 64 (bit_or (word / 2 ^ by) (word * 2 ^ (n - 1 - by) % 2 ^ 64 * 2 ^ 1 % 2 ^ 64))
turned_by line word n by fits few less again cells j within =
    ap (λ b. b == 1) (bit_at_or (word / 2 ^ by) up j) ∙ ⊎_elim
    (λ (first : j < n - by). ap (λ b. max (bit_at (word / 2 ^ by) j) b == 1) (moved_up_below word (n - 1 - by) j (omega arith) (omega arith) within)
    ∙ ap (λ b. b == 1) (omega (arith, bit_at-lt (word / 2 ^ by) j)) ∙ ahead (omega arith))
    (λ (next : n - by ≤ j). ⊎_elim
    (λ (low : j + by < 64). either (bit_at (word / 2 ^ by) j) (bit_at up j) (line (by + j)) (ahead low) (behind next) (bit_at-lt (word / 2 ^ by) j) (bit_at-lt up j))
    (λ (high : 64 ≤ j + by). ap (λ b. max b (bit_at up j) == 1) (bit_at_shr word by j ∙ bit_at_above word 64 (j + by) fits high)
    ∙ ap (λ b. b == 1) (omega (arith, bit_at-lt up j)) ∙ behind next)
    (cases_lt (j + by) 64))
    (cases_lt j (n - by))
  where
    up : ℕ
    up = word * 2 ^ (n - 1 - by) % 2 ^ 64 * 2 ^ 1 % 2 ^ 64

    ahead : j + by < 64 → (bit_at (word / 2 ^ by) j == 1) ≡ line (by + j)
    ahead low = ap (λ b. b == 1) (bit_at_shr word by j) ∙ cells (j + by) low ∙ ap line (omega arith)

    behind : n - by ≤ j → (bit_at up j == 1) ≡ line (by + j)
    behind next =
        ap (λ b. b == 1) (moved_up word (n - 1 - by) j (omega arith) (omega arith) within) ∙ cells (j - (n - 1 - by + 1)) (omega arith)
        ∙ sym (again (0 + (j - (n - 1 - by + 1)))) ∙ ap line (omega arith)

pub turned_cells : (line : ℕ → Bool) (word n from : ℕ) → word < 2 ^ 64 → 0 < n → n ≤ 64 → Repeats line n → AreCells line 0 64 word
    → AreCells line from 64 (bit_or (word / 2 ^ (from % n)) (word * 2 ^ (n - 1 - from % n) % 2 ^ 64 * 2 ^ 1 % 2 ^ 64))
turned_cells line word n from fits some few again cells j within =
    turned_by line word n (from % n) fits few (mod_below from n some) again cells j within
    ∙ sym (repeats_often line n (from / n) (from % n + j) again) ∙ ap line (omega (arith, mod-add-div' from n))

right_again : (n up p c : ℕ) → ltb (remainder (pos p -ℤ pos (c + n)) n) up ≡ ltb (remainder (pos p -ℤ pos c) n) up
right_again zero up p c = let e : c + 0 ≡ c = omega arith in ap (λ x. ltb (remainder (pos p -ℤ pos x) 0) up) e
right_again (suc k) up p c =
    ap (λ m. ltb m up)
    (remainder_of_difference (suc k) p (c + suc k) (omega arith) ∙ ap (λ m. (p + (suc k - m)) % suc k) (add-mod_right c (suc k)) ∙ sym (remainder_of_difference (suc k) p c (omega arith)))

binds_again : (n s c p : ℕ) → binds n s (c + n) p ≡ binds n s c p
binds_again n s c p = ap (λ m. p % n == m) (ap (λ m. m % n) (mul-add s c n) ∙ add-mul-mod_self_right (s * c) s n)

-- after how many columns a weave's marks come again
pub marks_repeat : (w : Weave) (p : ℕ) → Repeats (λ c. mark w c p) (repeat_of w)
marks_repeat Blank p c = refl
marks_repeat Full p c = refl
marks_repeat Plain p c = ap (λ m. m == 0) (omega arith)
marks_repeat (Twill up down Right) p c = right_again (up + down) up p c
marks_repeat (Twill up down Left) p c = ap (λ m. ltb m up) (ap (λ m. m % (up + down)) (omega arith) ∙ add-mod_right (p + c) (up + down))
marks_repeat (Satin n s Weft) p c = binds_again n s c p
marks_repeat (Satin n s Warp) p c = ap not (binds_again n s c p)
marks_repeat (Rows rows) p c = ap (λ m. get_or (get_or rows (p % length rows) []) m false) (add-mod_right c (length (get_or rows 0 [])))
