-- Stretches of bits that are laid piece by piece.
use Rattle.std.proofs.Common.{◌≡◌, ◌≢◌, ◌+◌, ◌-◌, ◌*◌, ◌/◌, ◌%◌, ◌<◌, ◌≤◌, ◌==◌, ◌||◌, ℕ, Bool, false, List, length, get_or, set, sym, ap, subst, ◌∙◌, ⊎_elim, refl, length-set, map, not, bit_or, max, take, drop, ◌++◌, arith}
use Rattle.std.specs.Int.{bit_at}
use Rattle.std.proofs.Math.Seq.{take-append_seam}
use Rattle.std.proofs.lemmas.Bool.{cases_eq, cases_lt}
use Rattle.std.proofs.lemmas.List.{length-map, get_or-map}
use Rattle.std.proofs.lemmas.Bool.Decides.{nat_tests}
use Rattle.std.proofs.lemmas.Nat.Bits.{bit_at_or, bit_at-lt}
use Rattle.mill_base.specs.Bits.{bit_of, bits_of, IsRow}
use Rattle.mill_base.specs.Stretches.{IsLaid}
use Rattle.mill_base.specs.inner.Stretches.{AreLaid}
use Rattle.mill_base.proofs.lemmas.Rows.{length-bits_of, get_or-bits_of, bits_same_there, bits_are, bit_is_cell, holds_row, length_is}
use Rattle.mill_base.proofs.lemmas.RotatedRows.{bit_of_set_here, bit_of_set_others}

-- a piece within one word
pub piece_laid : (words : List ℕ) (at count word : ℕ) (cell : ℕ → Bool) → at / 64 < length words → at % 64 + count ≤ 64
    → ((i : ℕ) → i < at % 64 → bit_at word i ≡ bit_at (get_or words (at / 64) 0) i)
    → ((i : ℕ) → at % 64 ≤ i → i < at % 64 + count → (bit_at word i == 1) ≡ cell (i - at % 64))
    → ((i : ℕ) → at % 64 + count ≤ i → i < 64 → bit_at word i ≡ bit_at (get_or words (at / 64) 0) i)
    → AreLaid words at count cell (set words (at / 64) word)
piece_laid words at count word cell there within below inside past = record {
  len = length-set words (at / 64) word;
  here = λ i h.
      bit_of_set_here words (at / 64) word (at + i) there (omega arith) ∙ inside ((at + i) % 64) (omega arith) (omega arith)
      ∙ ap cell (let e : (at + i) % 64 - at % 64 ≡ i = omega arith in e);
  below = λ k h. ⊎_elim
      (λ (same : k / 64 ≡ at / 64). bit_of_set_here words (at / 64) word k there same ∙ ap (λ b. b == 1) (below (k % 64) (omega arith) ∙ ap (λ q. bit_at (get_or words q 0) (k % 64)) (sym same)))
      (λ (away : k / 64 ≢ at / 64). bit_of_set_others words (at / 64) word k away) (cases_eq (k / 64) (at / 64));
  past = λ k h. ⊎_elim
      (λ (same : k / 64 ≡ at / 64). bit_of_set_here words (at / 64) word k there same ∙ ap (λ b. b == 1) (past (k % 64) (omega arith) (omega arith) ∙ ap (λ q. bit_at (get_or words q 0) (k % 64)) (sym same)))
      (λ (away : k / 64 ≢ at / 64). bit_of_set_others words (at / 64) word k away) (cases_eq (k / 64) (at / 64));
}

-- nothing is laid yet
pub none_laid : (words : List ℕ) (at : ℕ) (cell : ℕ → Bool) → AreLaid words at 0 cell words
none_laid words at cell = record { len = refl; here = λ i h. absurd (omega arith); below = λ k h. refl; past = λ k h. refl }

-- one more piece
pub more_laid : (old mid new : List ℕ) (at done count : ℕ) (cell piece : ℕ → Bool) → AreLaid old at done cell mid → AreLaid mid (at + done) count piece new
    → ((i : ℕ) → i < count → piece i ≡ cell (done + i)) → AreLaid old at (done + count) cell new
more_laid old mid new at done count cell piece before more same = record {
  len = more.len ∙ before.len;
  here = λ i h. ⊎_elim
      (λ (early : i < done). more.below (at + i) (omega arith) ∙ before.here i early)
      (λ (late : done ≤ i).
      let place : at + i ≡ at + done + (i - done) = omega arith in
      let back : done + (i - done) ≡ i = omega arith in
      ap (bit_of new) place ∙ more.here (i - done) (omega arith) ∙ same (i - done) (omega arith) ∙ ap cell back)
      (cases_lt i done);
  below = λ k h. more.below k (omega arith) ∙ before.below k h;
  past = λ k h. more.past k (omega arith) ∙ before.past k (omega arith);
}

-- the same bits, told otherwise
pub same_laid : (old new : List ℕ) (at count : ℕ) (one other : ℕ → Bool) → AreLaid old at count one new → ((i : ℕ) → i < count → one i ≡ other i) → AreLaid old at count other new
same_laid old new at count one other laid same = record { len = laid.len; here = λ i h. laid.here i h ∙ same i h; below = laid.below; past = laid.past }

-- words that are laid as a slice of a list are the list's
pub slice_laid : (old given new : List ℕ) (len place at count : ℕ) (one other : ℕ → Bool) → given ≡ old → len ≡ length old → place ≡ at → AreLaid given place count one new
    → ((i : ℕ) → i < count → one i ≡ other i) → AreLaid old at count other (take len (new ++ drop (length new) old))
slice_laid old given new len place at count one other is long there laid same =
    let whole : len ≡ length new = long ∙ ap length (sym is) ∙ sym laid.len in
    let words : take len (new ++ drop (length new) old) ≡ new = ap (λ n. take n (new ++ drop (length new) old)) whole ∙ take-append_seam new (drop (length new) old) in
    subst (AreLaid old at count other) (sym words)
    (same_laid old new at count one other
    (subst (λ (n : ℕ). AreLaid old n count one new) there (subst (λ (ws : List ℕ). AreLaid ws place count one new) is laid)) same)

-- the words stay a row
pub row_laid : (old new : List ℕ) (n at count : ℕ) (cell : ℕ → Bool) → IsRow old n → at + count ≤ n → AreLaid old at count cell new → IsRow new n
row_laid old new n at count cell row within laid = record {
  enough = laid.len ∙ row.enough;
  clear = λ k from below. laid.past k (omega arith) ∙ row.clear k from (subst (λ m. k < 64 * m) laid.len below);
}

-- and the row is laid
pub bits_laid : (old new : List ℕ) (n at count : ℕ) (cell value : ℕ → Bool) → at + count ≤ n → AreLaid old at count cell new → ((i : ℕ) → i < count → cell i ≡ value i)
    → IsLaid (bits_of old n) at count value (bits_of new n)
bits_laid old new n at count cell value within laid same = record {
  len = length-bits_of new n ∙ sym (length-bits_of old n);
  here = λ i h. get_or-bits_of new n (at + i) false (omega arith) ∙ laid.here i h ∙ same i h;
  below = λ k h. bits_same_there new old n k (λ _. laid.below k h);
  past = λ k h. bits_same_there new old n k (λ _. laid.past k h);
}

-- each bit of a row's words is the row's cell, and false past the row
pub cell_is : (words given : List ℕ) (n : ℕ) (row : List Bool) → given ≡ words → IsRow words n → bits_of words n ≡ row → (k : ℕ) → bit_of given k ≡ get_or row k false
cell_is words given n row same room is k =
    ap (λ ws. bit_of ws k) same ∙ bit_is_cell words (bits_of words n) (holds_row words n room) k ∙ ap (λ cells. get_or cells k false) is

-- a stretch within a row is within its words
pub stretch_within : (words : List ℕ) (n at count : ℕ) (row : List Bool) → IsRow words n → bits_of words n ≡ row → at + count ≤ length row → (at + count ≤ 64 * length words) × (at + count ≤ n)
stretch_within words n at count row room is within =
    let long = length_is words n row is in
    let enough = room.enough in
    (omega arith, omega arith)

-- a row of which the words are laid
pub row_is_laid : (old new : List ℕ) (n at count : ℕ) (cell value : ℕ → Bool) (row : List Bool) → IsRow old n → bits_of old n ≡ row → at + count ≤ length row
    → AreLaid old at count cell new → ((i : ℕ) → i < count → cell i ≡ value i) → IsLaid row at count value (bits_of new n)
row_is_laid old new n at count cell value row room is within laid same =
    subst (λ (line : List Bool). IsLaid line at count value (bits_of new n)) is (bits_laid old new n at count cell value (stretch_within old n at count row room is within).1 laid same)

-- a bit that is joined with one of a stretch that is not laid yet
pub joined_cell : (old mid given : List ℕ) (at done i : ℕ) (piece cell : Bool) → given ≡ mid → ((k : ℕ) → at + done ≤ k → bit_of mid k ≡ bit_of old k) → piece ≡ cell
    → (bit_of given (at + done + i) || piece) ≡ (bit_of old (at + (done + i)) || cell)
joined_cell old mid given at done i piece cell is past same = rw (is, past (at + done + i) (omega arith), same) (ap (λ k. bit_of old k || cell) (omega arith))

-- a bit of a word that is not laid yet
pub bit_not_laid : (old mid : List ℕ) (at done i : ℕ) → i < 64 → ((k : ℕ) → 64 * at + 64 * done ≤ k → bit_of mid k ≡ bit_of old k)
    → (bit_at (get_or mid (at + done) 0) i == 1) ≡ bit_of old (64 * at + (64 * done + i))
bit_not_laid old mid at done i within past =
    ap (λ q. bit_at (get_or mid q 0) i == 1) (let e : at + done ≡ (64 * at + (64 * done + i)) / 64 = omega arith in e)
    ∙ ap (λ r. bit_at (get_or mid ((64 * at + (64 * done + i)) / 64) 0) r == 1) (let e : i ≡ (64 * at + (64 * done + i)) % 64 = omega arith in e)
    ∙ past (64 * at + (64 * done + i)) (omega arith)

pub same_join : (a b c d : Bool) → a ≡ c → b ≡ d → (a || b) ≡ (c || d)
same_join a b c d e f = rw (e, f) refl

-- a bit of one word or of another
pub bit_of_either : (a b i : ℕ) → (bit_at (bit_or a b) i == 1) ≡ ((bit_at a i == 1) || (bit_at b i == 1))
bit_of_either a b i = ap (λ n. n == 1) (bit_at_or a b i) ∙ one_of (bit_at a i) (bit_at b i) (bit_at-lt a i) (bit_at-lt b i) where
  one_of : (a b : ℕ) → a < 2 → b < 2 → (max a b == 1) ≡ ((a == 1) || (b == 1))
  one_of a b ha hb = grind (arith, nat_tests)

-- a row of which each bit is turned round
pub bits_negated : (old new : List ℕ) (n : ℕ) (row : List Bool) → bits_of old n ≡ row → ((k : ℕ) → k < n → bit_of new k ≡ not (bit_of old k)) → bits_of new n ≡ map not row
bits_negated old new n row is each =
    sym (bits_are (map not row) new n (length-map row not ∙ sym (length_is old n row is))
    (λ k h. get_or-map not row k false false (let long = length_is old n row is in omega arith)
    ∙ ap (λ cells. not (get_or cells k false)) (sym is) ∙ ap not (get_or-bits_of old n k false h) ∙ sym (each k h)))
