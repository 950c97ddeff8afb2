-- Long cells of columns, and the two lines that decide a cell.
use Rattle.std.proofs.Common.{◌≡◌, ◌≢◌, ◌+◌, ◌<◌, ◌==◌, ◌&&◌, ◌||◌, ℕ, pos, Bool, true, false, List, [], length, get_or, slice_index, sym, ap, subst, ◌∙◌, refl, ⊎_elim, eqb-true, max, arith}
use Rattle.std.proofs.lemmas.Bool.{eq-eqb, and_parts, and_from, or_cases, or_from, or_left, or_right}
use Rattle.mill_base.specs.Below.{any_below}
use Rattle.mill_base.specs.Lines.{line_by}
use Rattle.mill_base.proofs.lemmas.Belows.{any_alike, any_here, any_witness, true_together}
use Rattle.mill_base.proofs.lemmas.Lines.{length-line_by, get_or-line_by, line_by_alike}
use Rattle.weave_book.specs.Weaves.{mark}
use Rattle.binder_marks.specs.Bound.{bound_cell}
use Rattle.cloth_floats.specs.Windows.{is_long, IsNear}
use Rattle.point_paper.specs.Papers.{BitCells, bit_cell}
use Rattle.draft_model.specs.declared.design.Design.{Design}
use Rattle.draft_model.specs.Cells.{is_weft_long, long_cell_by, bound_by, AgreeAround}
use Rattle.draft_model.specs.Cloths.{rows_by}
use Rattle.draft_model.specs.Drawdowns.{column_long}
use Rattle.draft_model.specs.Floats.{long, weft_line, warp_line}

-- some number passes one test and, besides, one of two others, of which the second has one answer at all that pass the first
pub parted : (t w v : ℕ → Bool) (one : Bool) (n e : ℕ) → e < n → t e ≡ true → ((k : ℕ) → k < n → t k ≡ true → v k ≡ one)
    → any_below (λ k. t k && (w k || v k)) n ≡ (any_below (λ k. t k && w k) n || one)
parted t w v one n e there passes same =
    true_together (any_below (λ k. t k && (w k || v k)) n) (any_below (λ k. t k && w k) n || one)
    (λ some.
    let found = any_witness (λ k. t k && (w k || v k)) n some in
    let both = and_parts (t found.0) (w found.0 || v found.0) found.2 in
    ⊎_elim
    (λ (first : w found.0 ≡ true).
    or_left (any_below (λ k. t k && w k) n) one (any_here (λ k. t k && w k) n found.0 found.1 (and_from (t found.0) (w found.0) both.0 first)))
    (λ (second : v found.0 ≡ true). or_right (any_below (λ k. t k && w k) n) one (sym (same found.0 found.1 both.0) ∙ second))
    (or_cases (w found.0) (v found.0) both.1))
    (λ some. ⊎_elim
    (λ (first : any_below (λ k. t k && w k) n ≡ true).
    let found = any_witness (λ k. t k && w k) n first in
    let both = and_parts (t found.0) (w found.0) found.2 in
    any_here (λ k. t k && (w k || v k)) n found.0 found.1 (and_from (t found.0) (w found.0 || v found.0) both.0 (or_left (w found.0) (v found.0) both.1)))
    (λ (second : one ≡ true).
    any_here (λ k. t k && (w k || v k)) n e there (and_from (t e) (w e || v e) passes (or_right (w e) (v e) (same e there passes ∙ second))))
    (or_cases (any_below (λ k. t k && w k) n) one some))

pub guarded : (t a b : Bool) → (t ≡ true → a ≡ b) → (t && a) ≡ (t && b)
guarded true a b same = same refl
guarded false a b same = refl

-- a column that has an end is long at a pick where its own line is, or some end of it on the line of the pick
pub column_long_by : (design : Design) (bits : BitCells) (column pick e : ℕ)
    → ((x : ℕ) → x < length design.tie.ends → long design bits (pos x) (pos pick)
    ≡ (is_long (weft_line design.tie.ends bits pick) design.weft_back design.weft_face x || is_long (warp_line design.tie.ends bits x) design.warp_face design.warp_back pick))
    → e < length design.tie.ends → slice_index design.tie.ends e ≡ column → length bits.rows ≡ design.size.picks
    → column_long design bits column pick ≡ long_cell_by design (λ x. bit_cell bits x pick) (λ y. bit_cell bits column y) column pick
unfolding column_long long_cell_by
column_long_by design bits column pick e lines there tied high =
    any_alike (λ x. slice_index design.tie.ends x == column && long design bits (pos x) (pos pick))
    (λ x. slice_index design.tie.ends x == column && (weft x || warp x)) (length design.tie.ends)
    (λ x h. ap (λ b. slice_index design.tie.ends x == column && b) (lines x h))
    ∙ parted (λ x. slice_index design.tie.ends x == column) weft warp (is_long (line_by design.size.picks (λ y. bit_cell bits column y)) design.warp_face design.warp_back pick)
    (length design.tie.ends) e there (eq-eqb (slice_index design.tie.ends e) column tied)
    (λ x h is. ap (λ k. is_long (line_by (length bits.rows) (λ y. bit_cell bits k y)) design.warp_face design.warp_back pick) (eqb-true (slice_index design.tie.ends x) column is)
    ∙ ap (λ n. is_long (line_by n (λ y. bit_cell bits column y)) design.warp_face design.warp_back pick) high)
  where
    weft : ℕ → Bool
    weft x = is_long (weft_line design.tie.ends bits pick) design.weft_back design.weft_face x

    warp : ℕ → Bool
    warp x = is_long (warp_line design.tie.ends bits x) design.warp_face design.warp_back pick

-- lines of the same cells
pub long_cell_alike : (design : Design) (row other_row cells other_cells : ℕ → Bool) (column pick : ℕ)
    → ((x : ℕ) → x < length design.tie.ends → row (slice_index design.tie.ends x) ≡ other_row (slice_index design.tie.ends x))
    → ((y : ℕ) → y < design.size.picks → cells y ≡ other_cells y)
    → long_cell_by design row cells column pick ≡ long_cell_by design other_row other_cells column pick
unfolding long_cell_by
long_cell_alike design row other_row cells other_cells column pick rows columns =
    ap (λ line. any_below (λ e. slice_index design.tie.ends e == column && is_long line design.weft_back design.weft_face e) (length design.tie.ends)
    || is_long (line_by design.size.picks cells) design.warp_face design.warp_back pick)
    (line_by_alike false (length design.tie.ends) (λ x. row (slice_index design.tie.ends x)) (λ x. other_row (slice_index design.tie.ends x)) rows)
    ∙ ap (λ line. any_below (is_weft_long design other_row column) (length design.tie.ends) || is_long line design.warp_face design.warp_back pick)
    (line_by_alike false design.size.picks cells other_cells columns)

-- the law of one line by positions, as it is handed in
abbrev pub DecidesByPositions : Type 0
DecidesByPositions = (one other : List Bool) (lifted unlifted k : ℕ) → length one ≡ length other → k < length one
    → ((y : ℕ) → y < length one → IsNear (length one) (max lifted unlifted) k y → get_or one y false ≡ get_or other y false)
    → is_long one lifted unlifted k ≡ is_long other lifted unlifted k

-- two lines by a formula that agree within the greater limit of a place are long there alike
line_alike : DecidesByPositions → (n : ℕ) (one other : ℕ → Bool) (lifted unlifted k : ℕ) → k < n
    → ((y : ℕ) → y < n → IsNear n (max lifted unlifted) k y → one y ≡ other y)
    → is_long (line_by n one) lifted unlifted k ≡ is_long (line_by n other) lifted unlifted k
line_alike law n one other lifted unlifted k there agree =
    let long = length-line_by n one in
    law (line_by n one) (line_by n other) lifted unlifted k (long ∙ sym (length-line_by n other)) (subst (λ m. k < m) (sym long) there)
    (λ y h near.
    let below : y < n = subst (λ m. y < m) long h in
    get_or-line_by n one y false below ∙ agree y below (subst (λ m. IsNear m (max lifted unlifted) k y) long near) ∙ sym (get_or-line_by n other y false below))

pub long_cell_around : DecidesByPositions → (design : Design) (row other_row cells other_cells : ℕ → Bool) (column pick : ℕ) → pick < design.size.picks
    → AgreeAround design row other_row cells other_cells column pick
    → long_cell_by design row cells column pick ≡ long_cell_by design other_row other_cells column pick
unfolding long_cell_by
long_cell_around law design row other_row cells other_cells column pick there agree =
    ap (λ b. b || is_long (line_by design.size.picks cells) design.warp_face design.warp_back pick)
    (any_alike (is_weft_long design row column) (is_weft_long design other_row column) (length design.tie.ends)
    (λ e h. guarded (slice_index design.tie.ends e == column)
    (is_long (line_by (length design.tie.ends) (λ x. row (slice_index design.tie.ends x))) design.weft_back design.weft_face e)
    (is_long (line_by (length design.tie.ends) (λ x. other_row (slice_index design.tie.ends x))) design.weft_back design.weft_face e)
    (λ is. line_alike law (length design.tie.ends) (λ x. row (slice_index design.tie.ends x)) (λ x. other_row (slice_index design.tie.ends x)) design.weft_back design.weft_face e h
    (λ x below near. agree.along_pick e x h (eqb-true (slice_index design.tie.ends e) column is) below near))))
    ∙ ap (λ b. any_below (is_weft_long design other_row column) (length design.tie.ends) || b)
    (line_alike law design.size.picks cells other_cells design.warp_face design.warp_back pick there agree.along_end)

pub bound_around : (design : Design) (row other_row cells other_cells : ℕ → Bool) (column pick : ℕ)
    → long_cell_by design row cells column pick ≡ long_cell_by design other_row other_cells column pick → row column ≡ other_row column
    → bound_by design row cells column pick ≡ bound_by design other_row other_cells column pick
bound_around design row other_row cells other_cells column pick long same =
    ap (λ b. bound_cell b (long_cell_by design row cells column pick) (mark design.raise column pick) (mark design.sink column pick)) same
    ∙ ap (λ b. bound_cell (other_row column) b (mark design.raise column pick) (mark design.sink column pick)) long

-- the cells of rows by a formula
pub cell_of_rows : (columns picks : ℕ) (cell : ℕ → ℕ → Bool) (column pick : ℕ) → column < columns → pick < picks
    → bit_cell (record { columns = columns; rows = rows_by columns picks cell }) column pick ≡ cell column pick
cell_of_rows columns picks cell column pick c p =
    ap (λ row. get_or row column false) (get_or-line_by picks (λ y. line_by columns (λ x. cell x y)) pick [] p)
    ∙ get_or-line_by columns (λ x. cell x pick) column false c
