-- Images whose pixels are colours of the book.
use Rattle.std.proofs.Common.{◌≡◌, ℕ, suc, ◌+◌, ◌-◌, ◌*◌, ◌<◌, ◌≤◌, nat_le, nat_lt, Bool, true, false, List, [], ◌∷◌, length, drop, Option, Some, None, option_map, slice_get, slice_index, filter_map, refl, ap, sym, ◌∙◌, subst, arith}
use Rattle.std.specs.List.{position_or_len, range_with_len}
use Rattle.std.proofs.Math.Bool.{cond}
use Rattle.std.proofs.lemmas.Bool.{ltb-false, leb-false}
use Rattle.std.proofs.Math.Nat.{suc-mul, mul-le-mul_right}
use Rattle.std.proofs.lemmas.List.{get_or-take, get_or-drop, length-take, length-drop}
use Rattle.std.proofs.lemmas.List.Sums.{fails_before_first}
use Rattle.mill_base.proofs.lemmas.FirstAnswers.{none_each}
use Rattle.mill_base.specs.declared.size.Size.{Size}
use Rattle.point_paper.specs.Papers.{PaperCells, cell_of, image_cell, paper_by}
use Rattle.session_rules.specs.declared.fault.SessionFaultKind.{SessionFaultKind}
use Rattle.session_file.specs.Sessions.{foreign_colour, foreign_in, pick_pixels}
use Rattle.session_file.specs.inner.Images.{HasColours}

unset : {A B : Type 0} (f : A → B) (b : Bool) (x : A) → option_map f (cond b (Some x) None) ≡ None → b ≡ false
unset f true x e = absurd (cc)
unset f false x e = refl

-- a row without a foreign colour has colours of the book alone
all_known : (colours pick : ℕ) (row : List ℕ) → foreign_in colours pick row ≡ None → (column : ℕ) → column < length row → slice_index row column < colours
all_known colours pick row e column below =
    let test : ℕ → Bool = λ colour. nat_le colours colour in
    let all = ltb-false (position_or_len test row) (length row) (unset _ (nat_lt (position_or_len test row) (length row)) _ e) in
    leb-false colours (slice_index row column) (fails_before_first test row column 0 (omega (arith, all, below)))

nothing : {A : Type 0} (xs : List A) → slice_get xs 0 ≡ None → xs ≡ []
nothing [] e = refl
nothing (x ∷ xs) e = absurd (cc)

pub known : (colours : ℕ) (size : Size) (pixels : List ℕ) → foreign_colour colours size pixels ≡ None → (pick : ℕ) → pick < size.picks → foreign_in colours pick (pick_pixels size pixels pick) ≡ None
unfolding foreign_colour
known colours size pixels e pick below =
    let rows : ℕ → Option SessionFaultKind = λ pick. foreign_in colours pick (pick_pixels size pixels pick) in
    none_each rows size.picks pick (nothing (filter_map rows (range_with_len 0 size.picks)) e) below

pub has_colours : (colours : ℕ) (size : Size) (pixels : List ℕ) → foreign_colour colours size pixels ≡ None → length pixels ≡ size.picks * size.columns
    → (column pick : ℕ) → column < size.columns → pick < size.picks → image_cell size.columns size.picks pixels column pick < colours
has_colours colours size pixels e drawn column pick in_row in_paper =
    let row = size.picks - 1 - pick in
    let at = row * size.columns in
    let cells = pick_pixels size pixels pick in
    let inside : at + size.columns ≤ size.picks * size.columns = omega (arith, suc-mul row size.columns, mul-le-mul_right {m = suc row} {n = size.picks} size.columns (omega (arith, in_paper))) in
    let wide : column < length cells = omega (arith, length-take size.columns (drop at pixels), length-drop at pixels, inside, drawn, in_row) in
    let here : slice_index cells column ≡ slice_index pixels (at + column) = get_or-take size.columns (drop at pixels) column 0 in_row ∙ get_or-drop at pixels column 0 in
    subst (λ (n : ℕ). n < colours) here (all_known colours pick cells (known colours size pixels e pick in_paper) column wide)

-- the paper of the pixels has colours of the book alone
pub paper_known : (colours : ℕ) (size : Size) (pixels : List ℕ) (paper : PaperCells) → foreign_colour colours size pixels ≡ None → length pixels ≡ size.picks * size.columns
    → paper ≡ paper_by size.columns size.picks (image_cell size.columns size.picks pixels)
    → ((columns picks : ℕ) (cell : ℕ → ℕ → ℕ) (column pick : ℕ) → column < columns → pick < picks → cell_of (paper_by columns picks cell) column pick ≡ cell column pick)
    → HasColours size colours paper
paper_known colours size pixels paper e drawn is cells column pick in_row in_paper =
    let cell = image_cell size.columns size.picks pixels in
    subst (λ (n : ℕ). n < colours) (sym (ap (λ (p : PaperCells). cell_of p column pick) is ∙ cells size.columns size.picks cell column pick in_row in_paper))
    (has_colours colours size pixels e drawn column pick in_row in_paper)
