-- Words of marks that are kept by colour.
use Rattle.mill_base.proofs.lemmas.WordBits.{clear_bit}
use Rattle.std.proofs.lemmas.Nat.Bits.{bit_at_and, bit_at_not, bit_at-lt}
use Rattle.std.proofs.lemmas.Nat.{and_le_l}
use Rattle.weave_book.specs.inner.Kept.{AreKept}
use Rattle.std.proofs.Common.{◌≡◌, ℕ, ◌+◌, ◌-◌, ◌<◌, ◌≤◌, ◌==◌, Bool, List, length, get_or, drop, replicate, sym, ap, subst, ◌∙◌, arith, ⊎_elim, ◌^◌, ◌≢◌, set, get_or-set_same, get_or-set_other, ◌++◌, w64, bit_and, true}
use Rattle.std.proofs.lemmas.Bool.{cases_lt, cases_eq, eqb-true, eq-eqb, ne_eqb}
use Rattle.std.proofs.lemmas.List.{get_or-replicate, length-replicate, get_or_past, get_or-drop, get_or-append_right}
use Rattle.std.specs.Int.{bit_at}
use Rattle.weave_book.specs.Books.{colour_mark}
use Rattle.weave_book.specs.declared.weaves.Weave.{Weave}
use Rattle.weave_book.specs.inner.Parts.{IsPattern}

pub none_there : (n k : ℕ) → get_or (replicate {A = ℕ} n 0) k 0 ≡ 0
none_there n k = ⊎_elim (λ (h : k < n). get_or-replicate n k 0 0 h)
    (λ (h : n ≤ k). get_or_past (replicate {A = ℕ} n 0) k 0 (subst (λ m. m ≤ k) (sym (length-replicate {A = ℕ} n 0)) h)) (cases_lt k n)

-- a mark of the same weaves, colour and pick
pub same_mark : (book kept : List Weave) (colour other column pick kept_pick : ℕ) (b : Bool) → kept ≡ book → kept_pick ≡ pick → colour ≡ other
    → b ≡ colour_mark kept other column kept_pick → b ≡ colour_mark book colour column pick
same_mark book kept colour other column pick kept_pick b weaves picks colours is =
    is ∙ ap (λ w. colour_mark w other column kept_pick) weaves ∙ ap (λ n. colour_mark book n column kept_pick) (sym colours) ∙ ap (λ n. colour_mark book colour column n) picks

-- ---- the cells of one colour at a time

-- what is left once the cells of one colour are placed, of which there is one
pub fewer_left : (left alike t : ℕ) → left < 2 ^ 64 → alike < 2 ^ 64 → t < 64 → bit_at left t ≡ 1 → (bit_at alike t == 1) ≡ true → bit_and left (2 ^ 64 - 1 - alike) < left
fewer_left left alike t in_left in_alike within here too =
    let most : bit_and left (2 ^ 64 - 1 - alike) ≤ left = and_le_l left (2 ^ 64 - 1 - alike) in
    let gone : bit_at (bit_and left (2 ^ 64 - 1 - alike)) t ≡ 0 =
    omega (arith, bit_at_and left (2 ^ 64 - 1 - alike) t, bit_at_not w64 alike t in_alike within, eqb-true (bit_at alike t) 1 too) in
    let other : bit_and left (2 ^ 64 - 1 - alike) ≢ left = λ e. let same : bit_at (bit_and left (2 ^ 64 - 1 - alike)) t ≡ bit_at left t = ap (λ n. bit_at n t) e in omega (arith, same, gone, here) in
    omega (arith, most, other)

-- a cell that is not left was placed before, or is of this colour
pub placed_more : (line : ℕ → Bool) (cells : List ℕ) (colour left alike marks word result j : ℕ) → alike < 2 ^ 64 → j < 64
    → (bit_at alike j == 1) ≡ (get_or cells j 0 == colour)
    → (bit_at left j ≡ 0 → (bit_at marks j == 1) ≡ line j)
    → (get_or cells j 0 ≡ colour → (bit_at word j == 1) ≡ line j)
    → (bit_at alike j ≡ 0 → bit_at result j ≡ bit_at marks j)
    → (bit_at alike j ≡ 1 → bit_at result j ≡ bit_at word j)
    → bit_at (bit_and left (2 ^ 64 - 1 - alike)) j ≡ 0 → (bit_at result j == 1) ≡ line j
placed_more line cells colour left alike marks word result j fits within which before here outside inside gone = ⊎_elim
    (λ (of_it : get_or cells j 0 ≡ colour).
    ap (λ b. b == 1) (inside (eqb-true (bit_at alike j) 1 (which ∙ eq-eqb (get_or cells j 0) colour of_it))) ∙ here of_it)
    (λ (other : get_or cells j 0 ≢ colour).
    let clear : bit_at alike j ≡ 0 = clear_bit alike j (which ∙ ne_eqb (get_or cells j 0) colour other) in
    ap (λ b. b == 1) (outside clear)
    ∙ before (omega (arith, gone, bit_at_and left (2 ^ 64 - 1 - alike) j, bit_at_not w64 alike j fits within, clear, bit_at-lt left j)))
    (cases_eq (get_or cells j 0) colour)

-- cells that are filled up with one colour
pub filled_past : (front : List ℕ) (n colour j : ℕ) → length front ≡ n → n ≤ j → j < 64 → get_or (front ++ drop n (replicate 64 colour)) j 0 ≡ colour
filled_past front n colour j long from within =
    get_or-append_right front (drop n (replicate 64 colour)) n j 0 long from
    ∙ get_or-drop n (replicate 64 colour) (j - n) 0 ∙ get_or-replicate 64 (n + (j - n)) colour 0 (omega arith)

-- ---- what is kept

-- what is kept of one colour is its pattern
pub kept_more : (book : List Weave) (pick place repeat word : ℕ) (words repeats : List ℕ) → place < length words → place < length repeats
    → IsPattern (λ c. colour_mark book place c pick) repeat word → AreKept book pick words repeats → AreKept book pick (set words place word) (set repeats place repeat)
kept_more book pick place repeat word words repeats in_words in_repeats pattern kept colour some = ⊎_elim
    (λ (here : colour ≡ place).
    let columns : get_or (set repeats place repeat) colour 0 ≡ repeat = ap (λ c. get_or (set repeats place repeat) c 0) here ∙ get_or-set_same repeats place repeat 0 in_repeats in
    let same : get_or (set words place word) colour 0 ≡ word = ap (λ c. get_or (set words place word) c 0) here ∙ get_or-set_same words place word 0 in_words in
    let P : ℕ → ℕ → ℕ → Type 0 = λ c r w. IsPattern (λ x. colour_mark book c x pick) r w in
    subst (λ (w : ℕ). P colour (get_or (set repeats place repeat) colour 0) w) (sym same)
    (subst (λ (r : ℕ). P colour r word) (sym columns) (subst (λ (c : ℕ). P c repeat word) (sym here) pattern)))
    (λ (away : colour ≢ place).
    let columns : get_or (set repeats place repeat) colour 0 ≡ get_or repeats colour 0 = get_or-set_other repeats place colour repeat 0 away in
    let same : get_or (set words place word) colour 0 ≡ get_or words colour 0 = get_or-set_other words place colour word 0 away in
    let P : ℕ → ℕ → Type 0 = λ r w. IsPattern (λ x. colour_mark book colour x pick) r w in
    subst (λ (w : ℕ). P (get_or (set repeats place repeat) colour 0) w) (sym same)
    (subst (λ (r : ℕ). P r (get_or words colour 0)) (sym columns) (kept colour (subst (λ (n : ℕ). n ≢ 0) columns some))))
    (cases_eq colour place)
