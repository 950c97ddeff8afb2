-- Motifs that are stamped row by row.
use Rattle.std.proofs.Common.{◌≡◌, ℕ, ◌+◌, ◌*◌, ◌<◌, ◌≤◌, ◌&&◌, List, length, take, drop, get_or, ap, sym, ◌∙◌, ◌⊎◌, ⊎_elim, arith}
use Rattle.std.specs.Prelude.{◌==◌, nat_lt, Option, None}
use Rattle.std.specs.Option.{option_or}
use Rattle.std.proofs.lemmas.Bool.{cases_lt, cases_order, cond-true, cond-false, eq-eqb, ne_eqb, lt-ltb, le-ltb, and_from, and_left, and_right}
use Rattle.std.proofs.lemmas.List.{get_or_past, get_or_default, get_or-take, get_or-drop, length-take, length-drop}
use Rattle.mill_base.specs.declared.size.Size.{Size}
use Rattle.strokes.specs.Cells.{MotifCells, motif_cell}
use Rattle.strokes.specs.Paints.{steps_round, stamped}
use Rattle.strokes.specs.inner.Spans.{AreAmong, laid_round, stamped_below}
use Rattle.strokes.proofs.Covers.{or_none}

-- the cells of a row are those of the motif
pub row_among : (motif : MotifCells) (row : ℕ) (cells : List (Option ℕ)) → cells ≡ take motif.columns (drop (row * motif.columns) motif.cells) → AreAmong motif.cells cells
row_among motif row cells is k below =
    let n = motif.columns in
    let start = row * motif.columns in
    let long : length cells ≡ length (take n (drop start motif.cells)) = ap length is in
    let front : k < n = omega (arith, below, long, length-take n (drop start motif.cells)) in
    let there : start + k < length motif.cells = omega (arith, below, long, length-take n (drop start motif.cells), length-drop start motif.cells) in
    let cell : get_or cells k None ≡ get_or motif.cells (start + k) None = ap (λ xs. get_or xs k None) is ∙ get_or-take n (drop start motif.cells) k None front ∙ get_or-drop start motif.cells k None in
    (start + k, there, get_or_default motif.cells (start + k) (get_or cells k None) None there ∙ sym cell)

-- the cell in a column of a row
row_cell : (motif : MotifCells) (row column : ℕ) (cells : List (Option ℕ)) → cells ≡ take motif.columns (drop (row * motif.columns) motif.cells) → row < motif.picks
    → get_or cells column None ≡ motif_cell motif column row
unfolding motif_cell
row_cell motif row column cells is low = ⊎_elim
    (λ (inside : column < motif.columns).
    ap (λ xs. get_or xs column None) is ∙ get_or-take motif.columns (drop (row * motif.columns) motif.cells) column None inside
    ∙ get_or-drop (row * motif.columns) motif.cells column None
    ∙ sym (cond-true (nat_lt column motif.columns && nat_lt row motif.picks) (get_or motif.cells (row * motif.columns + column) None) None
    (and_from (nat_lt column motif.columns) (nat_lt row motif.picks) (lt-ltb column motif.columns inside) (lt-ltb row motif.picks low))))
    (λ (outside : motif.columns ≤ column).
    get_or_past cells column None (omega (arith, outside, ap length is, length-take motif.columns (drop (row * motif.columns) motif.cells)))
    ∙ sym (cond-false (nat_lt column motif.columns && nat_lt row motif.picks) (get_or motif.cells (row * motif.columns + column) None) None
    (and_left (nat_lt column motif.columns) (nat_lt row motif.picks) (le-ltb column motif.columns outside))))
    (cases_lt column motif.columns)

no_cell_above : (motif : MotifCells) (column row : ℕ) → motif.picks ≤ row → motif_cell motif column row ≡ None
unfolding motif_cell
no_cell_above motif column row above = cond-false (nat_lt column motif.columns && nat_lt row motif.picks) (get_or motif.cells (row * motif.columns + column) None) None
    (and_right (nat_lt column motif.columns) (nat_lt row motif.picks) (le-ltb row motif.picks above))

-- one row more
pub stamped_more : (motif : MotifCells) (size : Size) (column pick row at c p : ℕ) (cells : List (Option ℕ)) → cells ≡ take motif.columns (drop (row * motif.columns) motif.cells)
    → row < motif.picks → (p == at) ≡ (steps_round size.picks pick p == row)
    → option_or (laid_round cells size.columns column at c p) (stamped_below motif size column pick row c p) ≡ stamped_below motif size column pick (row + 1) c p
stamped_more motif size column pick row at c p cells is low same = ⊎_elim
    (λ (here : s ≡ row).
    ap (option_or (laid_round cells size.columns column at c p)) (cond-false (nat_lt s row) (stamped motif size column pick c p) None (le-ltb s row (omega (arith, here))))
    ∙ or_none (laid_round cells size.columns column at c p)
    ∙ cond-true (p == at) (get_or cells (steps_round size.columns column c) None) None (same ∙ eq-eqb s row here)
    ∙ row_cell motif row (steps_round size.columns column c) cells is low ∙ ap (motif_cell motif (steps_round size.columns column c)) (sym here)
    ∙ sym (cond-true (nat_lt s (row + 1)) (stamped motif size column pick c p) None (lt-ltb s (row + 1) (omega (arith, here)))))
    (λ (apart : (s < row) ⊎ (row < s)). ⊎_elim
    (λ (before : s < row).
    ap (λ o. option_or o (stamped_below motif size column pick row c p)) (elsewhere (λ e. omega (arith, e, before)))
    ∙ cond-true (nat_lt s row) (stamped motif size column pick c p) None (lt-ltb s row before)
    ∙ sym (cond-true (nat_lt s (row + 1)) (stamped motif size column pick c p) None (lt-ltb s (row + 1) (omega (arith, before)))))
    (λ (behind : row < s).
    ap (λ o. option_or o (stamped_below motif size column pick row c p)) (elsewhere (λ e. omega (arith, e, behind)))
    ∙ cond-false (nat_lt s row) (stamped motif size column pick c p) None (le-ltb s row (omega (arith, behind)))
    ∙ sym (cond-false (nat_lt s (row + 1)) (stamped motif size column pick c p) None (le-ltb s (row + 1) (omega (arith, behind)))))
    apart)
    (cases_order s row)
  where
    s : ℕ
    s = steps_round size.picks pick p

    elsewhere : (s ≡ row → ⊥) → laid_round cells size.columns column at c p ≡ None
    elsewhere other = cond-false (p == at) (get_or cells (steps_round size.columns column c) None) None (same ∙ ne_eqb s row other)

-- all rows
pub stamped_all : (motif : MotifCells) (size : Size) (column pick rows c p : ℕ) → motif.picks ≤ rows → stamped_below motif size column pick rows c p ≡ stamped motif size column pick c p
stamped_all motif size column pick rows c p all = ⊎_elim
    (λ (inside : steps_round size.picks pick p < rows). cond-true (nat_lt (steps_round size.picks pick p) rows) (stamped motif size column pick c p) None (lt-ltb (steps_round size.picks pick p) rows inside))
    (λ (above : rows ≤ steps_round size.picks pick p).
    cond-false (nat_lt (steps_round size.picks pick p) rows) (stamped motif size column pick c p) None (le-ltb (steps_round size.picks pick p) rows above)
    ∙ sym (no_cell_above motif (steps_round size.columns column c) (steps_round size.picks pick p) (omega (arith, all, above))))
    (cases_lt (steps_round size.picks pick p) rows)
