-- Rows without a fault, and the motifs that acts name.
use Rattle.std.proofs.Common.{◌≡◌, ℕ, zero, suc, ◌+◌, ◌*◌, ◌<◌, Bool, true, false, cond, List, [], ◌∷◌, ◌++◌, length, map, ap, sym, subst, refl, ◌∙◌, arith}
use Rattle.std.specs.Prelude.{◌==◌, nat_lt, ◌||◌, not, All, codes, slice_get, Option, Some, None, IfSome}
use Rattle.std.specs.Cmp.Lexicographic.{same_text}
use Rattle.std.specs.List.{flat_map}
use Rattle.std.specs.Str.{bytes_eq}
use Rattle.std.proofs.Math.Nat.{suc-mul}
use Rattle.std.proofs.lemmas.Bool.{eqb-true, ltb-true, ltb-false}
use Rattle.std.proofs.lemmas.List.{length-append, length-map}
use Rattle.std.proofs.lemmas.List.Elements.{All-append}
use Rattle.mill_base.proofs.lemmas.FirstAnswers.{nil_append}
use Rattle.mill_base.specs.Words.{words_of, number_of}
use Rattle.mill_base.specs.declared.size.Size.{Size}
use Rattle.strokes.specs.Cells.{MotifCells, HasColours, IsMotif, IsNoLarger, no_motif}
use Rattle.strokes.specs.Motifs.{width_of, first_width, told, word_faults, colour_faults, words_faults, width_faults, row_faults, rows_faults, size_faults, motif_faults, motif_fault, motif_of, row_cells}
use Rattle.strokes.specs.Places.{cells_of_motif, motif_of_act}
use Rattle.strokes.specs.declared.act.Act.{Act}
use Rattle.strokes.specs.declared.act.Act.TheVariants.{Dot, Rect, Line, Stamp, HalfDrop, Commit}
use Rattle.strokes.specs.declared.fault.MotifFault.{MotifFault}
use Rattle.strokes.specs.declared.fault.MotifFault.TheVariants.{Colour, Ragged, TooLarge}
use Rattle.strokes.specs.declared.motifs.NamedMotif.{NamedMotif}

nil_of : {A B : Type 0} (x : A) (xs : List A) → x ∷ xs ≡ [] → B
nil_of x xs e = absurd (cc)

nils : (xs ys : List MotifFault) → xs ++ ys ≡ [] → (xs ≡ []) × (ys ≡ [])
nils xs ys e = nil_append xs ys (ap (λ zs. slice_get zs 0) e)

below_of : (colours row k : ℕ) (n : Option ℕ) → colour_faults colours row k n ≡ [] → IfSome n (λ colour. colour < colours)
below_of colours row k None e = tt
below_of colours row k (Some n) e = by (nat_lt n colours) refl e where
  by : (b : Bool) → nat_lt n colours ≡ b → cond b [] (Colour (told row) (told k) ∷ []) ≡ [] → n < colours
  by true is e = ltb-true n colours is
  by false is e = nil_of (Colour (told row) (told k)) [] e

dot_is_none : number_of (codes ".") ≡ None
unfolding number_of
dot_is_none = refl

word_colour : (colours row k : ℕ) (word : List ℕ) → word_faults colours row k word ≡ [] → IfSome (number_of word) (λ colour. colour < colours)
word_colour colours row k word e = by (bytes_eq word (codes ".")) refl e where
  by : (b : Bool) → bytes_eq word (codes ".") ≡ b → cond b [] (colour_faults colours row k (number_of word)) ≡ [] → IfSome (number_of word) (λ colour. colour < colours)
  by true is e = subst (λ o. IfSome o (λ colour. colour < colours)) (sym (ap number_of (same_text word (codes ".") (sym is)) ∙ dot_is_none)) tt
  by false is e = below_of colours row k (number_of word) e

words_colours : (colours row k : ℕ) (words : List (List ℕ)) → words_faults colours row k words ≡ [] → All (λ cell. IfSome cell (λ colour. colour < colours)) (map number_of words)
words_colours colours row k [] e = λ i d h. absurd (omega (arith, h))
words_colours colours row k (word ∷ words) e =
    let parts = nils (word_faults colours row k word) (words_faults colours row (k + 1) words) e in
    All-append (λ cell. IfSome cell (λ colour. colour < colours)) (number_of word ∷ []) (map number_of words)
    (one (number_of word) (word_colour colours row k word parts.0)) (words_colours colours row (k + 1) words parts.1) where
      one : (cell : Option ℕ) → IfSome cell (λ colour. colour < colours) → All (λ cell. IfSome cell (λ colour. colour < colours)) (cell ∷ [])
      one cell here zero d h = here
      one cell here (suc i) d h = absurd (omega (arith, h))

even_of : (w row found : ℕ) → width_faults w row found ≡ [] → found ≡ w
even_of w row found e = by (found == 0) (found == w) refl e where
  by : (a b : Bool) → (found == w) ≡ b → cond (a || not b) (Ragged (told row) ∷ []) [] ≡ [] → found ≡ w
  by a true is e = eqb-true found w is
  by true false is e = nil_of (Ragged (told row)) [] e
  by false false is e = nil_of (Ragged (told row)) [] e

rows_colours : (colours w row : ℕ) (rows : List (List ℕ)) → rows_faults colours w row rows ≡ [] → All (λ cell. IfSome cell (λ colour. colour < colours)) (flat_map row_cells rows)
rows_colours colours w row [] e = λ i d h. absurd (omega (arith, h))
rows_colours colours w row (text ∷ rows) e =
    let parts = nils (row_faults colours w row text) (rows_faults colours w (row + 1) rows) e in
    let more = nils (words_faults colours row 0 (words_of text)) (width_faults w row (width_of text)) parts.0 in
    All-append (λ cell. IfSome cell (λ colour. colour < colours)) (row_cells text) (flat_map row_cells rows) (words_colours colours row 0 (words_of text) more.0) (rows_colours colours w (row + 1) rows parts.1)

rows_whole : (colours w row : ℕ) (rows : List (List ℕ)) → rows_faults colours w row rows ≡ [] → length (flat_map row_cells rows) ≡ length rows * w
rows_whole colours w row [] e = sym (zero_mul w) where
  zero_mul : (n : ℕ) → 0 * n ≡ 0
  zero_mul n = omega arith
rows_whole colours w row (text ∷ rows) e =
    let parts = nils (row_faults colours w row text) (rows_faults colours w (row + 1) rows) e in
    let more = nils (words_faults colours row 0 (words_of text)) (width_faults w row (width_of text)) parts.0 in
    let here : length (row_cells text) ≡ w = length-map (words_of text) number_of ∙ even_of w row (width_of text) more.1 in
    let next : suc (length rows) ≡ length (text ∷ rows) = omega arith in
    length-append (row_cells text) (flat_map row_cells rows) ∙ (let later = rows_whole colours w (row + 1) rows parts.1 in omega (arith, here, later, suc-mul (length rows) w))
    ∙ ap (λ n. n * w) next

no_faults : (rows : List (List ℕ)) (colours : ℕ) (size : Size) → motif_fault rows colours size ≡ None
    → (rows_faults colours (first_width rows) 0 rows ≡ []) × (size_faults size (first_width rows) (length rows) ≡ [])
unfolding motif_fault motif_faults
no_faults rows colours size none = nil_append (rows_faults colours (first_width rows) 0 rows) (size_faults size (first_width rows) (length rows)) none

pub motif_whole : (rows : List (List ℕ)) (colours : ℕ) (size : Size) → motif_fault rows colours size ≡ None → IsMotif (motif_of rows)
motif_whole rows colours size none = rows_whole colours (first_width rows) 0 rows (no_faults rows colours size none).0

pub motif_colours : (rows : List (List ℕ)) (colours : ℕ) (size : Size) → motif_fault rows colours size ≡ None → HasColours colours (motif_of rows)
motif_colours rows colours size none = rows_colours colours (first_width rows) 0 rows (no_faults rows colours size none).0

pub motif_small : (rows : List (List ℕ)) (colours : ℕ) (size : Size) → motif_fault rows colours size ≡ None → IsNoLarger (motif_of rows) size
motif_small rows colours size none = by (nat_lt size.columns (first_width rows)) (nat_lt size.picks (length rows)) refl refl (no_faults rows colours size none).1 where
  by : (a b : Bool) → nat_lt size.columns (first_width rows) ≡ a → nat_lt size.picks (length rows) ≡ b → cond (a || b) (TooLarge ∷ []) [] ≡ [] → IsNoLarger (motif_of rows) size
  by true b one other e = nil_of TooLarge [] e
  by false true one other e = nil_of TooLarge [] e
  by false false one other e = record { columns = ltb-false size.columns (first_width rows) one; picks = ltb-false size.picks (length rows) other }

-- ---- the motif that an act names

of_one : (P : MotifCells → Type 0) (motifs : List NamedMotif) (number : ℕ) → P no_motif → All (λ m. P m.motif) motifs → P (cells_of_motif (slice_get motifs number))
of_one P [] number none all = none
of_one P (m ∷ motifs) zero none all = all 0 m (omega arith)
of_one P (m ∷ motifs) (suc number) none all = of_one P motifs number none (λ k d h. all (suc k) d (omega (arith, h)))

of_act : (P : MotifCells → Type 0) (motifs : List NamedMotif) (act : Act) → P no_motif → All (λ m. P m.motif) motifs → P (motif_of_act motifs act)
of_act P motifs (Dot colour column pick) none all = none
of_act P motifs (Rect colour c0 p0 c1 p1) none all = none
of_act P motifs (Line colour c0 p0 c1 p1) none all = none
of_act P motifs (Stamp motif column pick) none all = of_one P motifs motif none all
of_act P motifs (HalfDrop motif column pick) none all = of_one P motifs motif none all
of_act P motifs Commit none all = none

pub act_motif_small : (motifs : List NamedMotif) (size : Size) (act : Act) → All (λ m. IsNoLarger m.motif size) motifs → IsNoLarger (motif_of_act motifs act) size
act_motif_small motifs size act all = of_act (λ motif. IsNoLarger motif size) motifs act (record { columns = omega arith; picks = omega arith }) all

pub act_motif_colours : (motifs : List NamedMotif) (colours : ℕ) (act : Act) → All (λ m. HasColours colours m.motif) motifs → HasColours colours (motif_of_act motifs act)
act_motif_colours motifs colours act all = of_act (HasColours colours) motifs act (λ k d h. absurd (omega (arith, h))) all
