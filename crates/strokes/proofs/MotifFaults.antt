-- The faults of rows as a motif, row by row: which of them is the first, and that there is none.
use Rattle.std.proofs.Common.{◌≡◌, ◌≢◌, ◌⊎◌, ⊎_elim, ℕ, suc, ◌+◌, ◌*◌, ◌<◌, ◌≤◌, Bool, true, false, cond, List, [], ◌∷◌, ◌++◌, length, get_or, drop, map, ap, sym, refl, ◌∙◌, arith}
use Rattle.std.specs.Prelude.{◌==◌, nat_lt, ◌||◌, not, slice_get, Option, Some, None}
use Rattle.std.specs.List.{flat_map}
use Rattle.std.proofs.Math.Nat.{suc-mul}
use Rattle.std.proofs.Math.Seq.{drop-cons}
use Rattle.std.proofs.lemmas.Bool.{eq-eqb}
use Rattle.std.proofs.lemmas.Bool.Decides.{nat_tests}
use Rattle.std.proofs.lemmas.List.{drop-map, append_assoc}
use Rattle.mill_base.proofs.lemmas.FirstAnswers.{first_of_left}
use Rattle.mill_base.proofs.lemmas.TextWords.{words_of_nothing}
use Rattle.mill_base.specs.Words.{words_of}
use Rattle.mill_base.specs.declared.size.Size.{Size}
use Rattle.strokes.specs.Motifs.{width_of, first_width, told, words_faults, width_faults, row_faults, rows_faults, size_faults, motif_faults, motif_fault, row_cells}
use Rattle.strokes.specs.declared.fault.MotifFault.{MotifFault}
use Rattle.strokes.specs.declared.fault.MotifFault.TheVariants.{Ragged, TooLarge}

-- the rows from a place on begin with the row at that place
pub texts_at : {S : Type 0} (f : S → List ℕ) (rows : List S) (k : ℕ) (row : S) → k < length rows → row ≡ get_or rows k row
    → drop k (map f rows) ≡ f row ∷ drop (k + 1) (map f rows)
texts_at f rows k row low is =
    let next : suc k ≡ k + 1 = omega arith in
    drop-map f k rows ∙ ap (map f) (drop-cons rows k row low) ∙ ap (λ r. f r ∷ map f (drop (suc k) rows)) (sym is)
    ∙ ap (λ texts. f row ∷ texts) (sym (drop-map f (suc k) rows) ∙ ap (λ n. drop n (map f rows)) next)

-- the width of row 0
pub front_width : (texts rest : List (List ℕ)) (k : ℕ) (text : List ℕ) → k ≡ 0 → drop k texts ≡ text ∷ rest → first_width texts ≡ width_of text
front_width texts rest k text zero is = ap first_width (ap (λ n. drop n texts) (sym zero) ∙ is)

pub no_width : (texts : List (List ℕ)) → length texts ≡ 0 → first_width texts ≡ 0
no_width [] none = ap length (words_of_nothing [] refl)
no_width (text ∷ texts) none = absurd (omega (arith, none))

-- the first fault of a row is the first of all, where no earlier row has one
pub fault_of_row : (colours w k : ℕ) (texts rest : List (List ℕ)) (text : List ℕ) (f : MotifFault) → drop k texts ≡ text ∷ rest
    → rows_faults colours w k (drop k texts) ≡ rows_faults colours w 0 texts → slice_get (row_faults colours w k text) 0 ≡ Some f
    → slice_get (rows_faults colours w 0 texts) 0 ≡ Some f
fault_of_row colours w k texts rest text f is before here =
    ap (λ xs. slice_get xs 0) (sym before ∙ ap (rows_faults colours w k) is) ∙ first_of_left (row_faults colours w k text) (rows_faults colours w (k + 1) rest) f here

pub fault_of_word : (colours w k : ℕ) (text : List ℕ) (f : MotifFault) → slice_get (words_faults colours k 0 (words_of text)) 0 ≡ Some f
    → slice_get (row_faults colours w k text) 0 ≡ Some f
fault_of_word colours w k text f here = first_of_left (words_faults colours k 0 (words_of text)) (width_faults w k (width_of text)) f here

is_ragged : (w k found : ℕ) → (found ≡ 0) ⊎ (found ≢ w) → width_faults w k found ≡ Ragged (told k) ∷ []
is_ragged w k found bad = ⊎_elim (λ (none : found ≡ 0). by (found == 0) (eq-eqb found 0 none) (found == w)) (λ (other : found ≢ w). other_width (found == 0) (found == w) refl other) bad where
  by : (a : Bool) → a ≡ true → (b : Bool) → cond (a || not b) (Ragged (told k) ∷ []) [] ≡ Ragged (told k) ∷ []
  by a is b = ap (λ c. cond (c || not b) (Ragged (told k) ∷ []) []) is

  other_width : (a b : Bool) → (found == w) ≡ b → found ≢ w → cond (a || not b) (Ragged (told k) ∷ []) [] ≡ Ragged (told k) ∷ []
  other_width true b is ne = refl
  other_width false true is ne = absurd (grind (arith, nat_tests))
  other_width false false is ne = refl

pub ragged_row : (colours w k found : ℕ) (text : List ℕ) → words_faults colours k 0 (words_of text) ≡ [] → found ≡ width_of text → (found ≡ 0) ⊎ (found ≢ w)
    → slice_get (row_faults colours w k text) 0 ≡ Some (Ragged (told k))
ragged_row colours w k found text none is bad =
    ap (λ xs. slice_get (xs ++ width_faults w k (width_of text)) 0) none ∙ ap (λ n. slice_get (width_faults w k n) 0) (sym is) ∙ ap (λ xs. slice_get xs 0) (is_ragged w k found bad)

is_even : (w k found : ℕ) → (found ≡ 0 → ⊥) → found ≡ w → width_faults w k found ≡ []
is_even w k found some same = by (found == 0) (found == w) refl refl where
  by : (a b : Bool) → (found == 0) ≡ a → (found == w) ≡ b → cond (a || not b) (Ragged (told k) ∷ []) [] ≡ []
  by true b is is' = absurd (grind (arith, nat_tests))
  by false true is is' = refl
  by false false is is' = absurd (grind (arith, nat_tests))

-- a row without a fault: the faults are those of the rows behind it
pub row_passes : (colours w k found : ℕ) (texts rest : List (List ℕ)) (text : List ℕ) → drop k texts ≡ text ∷ rest
    → rows_faults colours w k (drop k texts) ≡ rows_faults colours w 0 texts → words_faults colours k 0 (words_of text) ≡ [] → found ≡ width_of text
    → (found ≡ 0 → ⊥) → found ≡ w → rows_faults colours w (k + 1) rest ≡ rows_faults colours w 0 texts
row_passes colours w k found texts rest text at before none is some same =
    ap (λ xs. xs ++ rows_faults colours w (k + 1) rest) (sym (ap (λ xs. xs ++ width_faults w k (width_of text)) none ∙ ap (width_faults w k) (sym is) ∙ is_even w k found some same))
    ∙ ap (rows_faults colours w k) (sym at) ∙ before

-- the cells of one row more
pub cells_more : (k : ℕ) (texts rest : List (List ℕ)) (text : List ℕ) (old new : List (Option ℕ)) → drop k texts ≡ text ∷ rest
    → old ++ flat_map row_cells (drop k texts) ≡ flat_map row_cells texts → new ≡ old ++ row_cells text → new ++ flat_map row_cells rest ≡ flat_map row_cells texts
cells_more k texts rest text old new at before is =
    ap (λ xs. xs ++ flat_map row_cells rest) is ∙ append_assoc old (row_cells text) (flat_map row_cells rest) ∙ ap (λ xs. old ++ flat_map row_cells xs) (sym at) ∙ before

pub product_more : (k w n m : ℕ) → n ≡ k * w → m ≡ w → n + m ≡ (k + 1) * w
product_more k w n m is same =
    let next : suc k ≡ k + 1 = omega arith in
    ap (λ x. x + m) is ∙ ap (λ x. k * w + x) same ∙ sym (suc-mul k w) ∙ ap (λ x. x * w) next

-- all rows, and last the size
pub fault_of_rows : (rows : List (List ℕ)) (colours : ℕ) (size : Size) (f : MotifFault) → slice_get (rows_faults colours (first_width rows) 0 rows) 0 ≡ Some f → motif_fault rows colours size ≡ Some f
unfolding motif_fault motif_faults
fault_of_rows rows colours size f here = first_of_left (rows_faults colours (first_width rows) 0 rows) (size_faults size (first_width rows) (length rows)) f here

pub fault_of_size : (rows : List (List ℕ)) (colours width : ℕ) (size : Size) → rows_faults colours (first_width rows) 0 rows ≡ [] → width ≡ first_width rows
    → (size.columns < width) ⊎ (size.picks < length rows) → motif_fault rows colours size ≡ Some TooLarge
unfolding motif_fault motif_faults
fault_of_size rows colours width size none is large =
    ap (λ xs. slice_get (xs ++ size_faults size (first_width rows) (length rows)) 0) none ∙ ap (λ n. slice_get (size_faults size n (length rows)) 0) (sym is)
    ∙ by (nat_lt size.columns width) (nat_lt size.picks (length rows)) refl refl where
      by : (a b : Bool) → nat_lt size.columns width ≡ a → nat_lt size.picks (length rows) ≡ b → slice_get (cond (a || b) (TooLarge ∷ []) []) 0 ≡ Some TooLarge
      by true b one other = refl
      by false true one other = refl
      by false false one other = absurd (⊎_elim (λ (h : size.columns < width). grind (arith, nat_tests)) (λ (h : size.picks < length rows). grind (arith, nat_tests)) large)

pub no_fault : (rows : List (List ℕ)) (colours width : ℕ) (size : Size) → rows_faults colours (first_width rows) 0 rows ≡ [] → width ≡ first_width rows
    → width ≤ size.columns → length rows ≤ size.picks → motif_fault rows colours size ≡ None
unfolding motif_fault motif_faults
no_fault rows colours width size none is narrow low =
    ap (λ xs. slice_get (xs ++ size_faults size (first_width rows) (length rows)) 0) none ∙ ap (λ n. slice_get (size_faults size n (length rows)) 0) (sym is)
    ∙ by (nat_lt size.columns width) (nat_lt size.picks (length rows)) refl refl where
      by : (a b : Bool) → nat_lt size.columns width ≡ a → nat_lt size.picks (length rows) ≡ b → slice_get (cond (a || b) (TooLarge ∷ []) []) 0 ≡ None
      by true b one other = absurd (grind (arith, nat_tests))
      by false true one other = absurd (grind (arith, nat_tests))
      by false false one other = refl
