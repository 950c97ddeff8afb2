-- Lists of cells by a formula.
use Rattle.std.proofs.Common.{◌≡◌, ◌+◌, ◌-◌, ◌*◌, ◌<◌, ◌≤◌, ℕ, zero, suc, List, ◌++◌, length, get_or, take, drop, slice_range, replicate, sym, ap, ◌∙◌, subst, refl, arith, ⊎_elim, length-append, length-take, length-drop, add-one}
use Rattle.std.proofs.Math.Nat.{suc-mul, mul-le-mul_right}
use Rattle.std.proofs.lemmas.Bool.{cases_lt}
use Rattle.std.proofs.lemmas.List.{ext_get_or, get_or_append_left, get_or-append-add, get_or-take, get_or-drop, get_or-replicate, length-replicate, take-append-drop}
use Rattle.std.proofs.lemmas.List.Edits.{length-between, get_or-between}
use Rattle.mill_base.proofs.lemmas.Lines.{length-line_by, get_or-line_by, line_is}
use Rattle.point_paper.specs.Papers.{PaperCells, HaveSameCells, IsPaper, cell_of, pick_of, column_of, colours_by, paper_by, image_cell}
use Rattle.mill_base.specs.Lines.{line_by}

-- the place of a cell is among those of the picks below, or in the last one
pub place_below : (columns picks column pick : ℕ) → column < columns → pick < picks → pick * columns + column < picks * columns
place_below columns picks column pick c p = omega (arith, suc-mul pick columns, mul-le-mul_right {m = suc pick} {n = picks} columns (omega arith))

pub length-colours_by : (columns picks : ℕ) (cell : ℕ → ℕ → ℕ) → length (colours_by columns picks cell) ≡ picks * columns
unfolding colours_by
length-colours_by columns zero cell = omega arith
length-colours_by columns (suc picks) cell =
    omega (
      arith,
      length-append (colours_by columns picks cell) (line_by columns (λ column. cell column picks)),
      length-colours_by columns picks cell,
      length-line_by columns (λ column. cell column picks),
      suc-mul picks columns,
    )

pub get_or-colours_by : (columns picks : ℕ) (cell : ℕ → ℕ → ℕ) (column pick : ℕ) → column < columns → pick < picks → get_or (colours_by columns picks cell) (pick * columns + column) 0 ≡ cell column pick
unfolding colours_by
get_or-colours_by columns zero cell column pick c p = absurd (omega arith)
get_or-colours_by columns (suc picks) cell column pick c p =
    let low = colours_by columns picks cell in
    let top = line_by columns (λ x. cell x picks) in
    ⊎_elim
    (λ (h : pick < picks). get_or_append_left low top 0 (pick * columns + column) (subst (λ n. pick * columns + column < n) (sym (length-colours_by columns picks cell)) (place_below columns picks column pick c h))
    ∙ get_or-colours_by columns picks cell column pick c h)
    (λ (h : picks ≤ pick).
    let last : pick ≡ picks = omega arith in
    ap (λ n. get_or (low ++ top) (n + column) 0) (ap (λ n. n * columns) last ∙ sym (length-colours_by columns picks cell))
    ∙ get_or-append-add low top column 0 ∙ get_or-line_by columns (λ x. cell x picks) column 0 c ∙ ap (cell column) (sym last))
    (cases_lt pick picks)

-- a list of as many picks whose cells are the formula's
pub colours_are : (xs : List ℕ) (columns picks : ℕ) (cell : ℕ → ℕ → ℕ) → length xs ≡ picks * columns
    → ((column pick : ℕ) → column < columns → pick < picks → get_or xs (pick * columns + column) 0 ≡ cell column pick) → xs ≡ colours_by columns picks cell
unfolding colours_by
colours_are xs columns zero cell long each = ext_get_or 0 xs (colours_by columns zero cell) (long ∙ sym (length-colours_by columns zero cell)) (λ k h. absurd (omega (arith, long)))
colours_are xs columns (suc picks) cell long each =
    let whole : picks * columns + columns ≡ length xs = omega (arith, suc-mul picks columns) in
    let low = colours_are (take (picks * columns) xs) columns picks cell (omega (arith, length-take (picks * columns) xs))
    (λ column pick c p. get_or-take (picks * columns) xs (pick * columns + column) 0 (place_below columns picks column pick c p) ∙ each column pick c (omega arith)) in
    let top = line_is 0 (drop (picks * columns) xs) columns (λ column. cell column picks) (omega (arith, length-drop (picks * columns) xs))
    (λ column c. get_or-drop (picks * columns) xs column 0 ∙ each column picks c (omega arith)) in
    sym (take-append-drop (picks * columns) xs) ∙ ap (λ ys. ys ++ drop (picks * columns) xs) low ∙ ap (λ ys. colours_by columns picks cell ++ ys) top

pub cell_of-paper_by : (columns picks : ℕ) (cell : ℕ → ℕ → ℕ) (column pick : ℕ) → column < columns → pick < picks → cell_of (paper_by columns picks cell) column pick ≡ cell column pick
cell_of-paper_by columns picks cell column pick c p = get_or-colours_by columns picks cell column pick c p

pub IsPaper-paper_by : (columns picks : ℕ) (cell : ℕ → ℕ → ℕ) → IsPaper (paper_by columns picks cell)
IsPaper-paper_by columns picks cell = length-colours_by columns picks cell

-- a paper whose cells are the formula's
pub paper_is : (paper : PaperCells) (cell : ℕ → ℕ → ℕ) → IsPaper paper
    → ((column pick : ℕ) → column < paper.columns → pick < paper.picks → cell_of paper column pick ≡ cell column pick) → paper ≡ paper_by paper.columns paper.picks cell
paper_is paper cell whole each =
    ap (λ (xs : List ℕ). record { columns = paper.columns; picks = paper.picks; colours = xs }) (colours_are paper.colours paper.columns paper.picks cell whole each)

pub same_papers : (one other : PaperCells) → IsPaper one → IsPaper other → HaveSameCells one other → one ≡ other
same_papers one other whole whole_too same =
    paper_is one (cell_of other) whole same.cells ∙ ap (λ n. paper_by n one.picks (cell_of other)) same.columns ∙ ap (λ n. paper_by other.columns n (cell_of other)) same.picks
    ∙ sym (paper_is other (cell_of other) whole_too (λ column pick c p. refl))

-- formulas that agree on each cell make one paper
pub papers_alike : (columns picks : ℕ) (cell other : ℕ → ℕ → ℕ) → ((column pick : ℕ) → column < columns → pick < picks → cell column pick ≡ other column pick) → paper_by columns picks cell ≡ paper_by columns picks other
papers_alike columns picks cell other each =
    paper_is (paper_by columns picks cell) other (length-colours_by columns picks cell) (λ column pick c p. get_or-colours_by columns picks cell column pick c p ∙ each column pick c p)

pub colours_of_one : (columns picks colour : ℕ) → replicate (picks * columns) colour ≡ colours_by columns picks (λ column pick. colour)
colours_of_one columns picks colour = colours_are (replicate (picks * columns) colour) columns picks (λ column pick. colour) (length-replicate (picks * columns) colour)
    (λ column pick c p. get_or-replicate (picks * columns) (pick * columns + column) colour 0 (place_below columns picks column pick c p))

-- the image row of a pick is that pick of the paper
pub image_row : (pixels : List ℕ) (columns picks pick : ℕ) → length pixels ≡ picks * columns → pick < picks
    → slice_range pixels ((picks - 1 - pick) * columns) ((picks - 1 - pick) * columns + columns) ≡ line_by columns (λ column. image_cell columns picks pixels column pick)
image_row pixels columns picks pick whole low =
    let at = (picks - 1 - pick) * columns in
    let within : at + columns ≤ length pixels = omega (arith, suc-mul (picks - 1 - pick) columns, mul-le-mul_right {m = suc (picks - 1 - pick)} {n = picks} columns (omega arith)) in
    line_is 0 (slice_range pixels at (at + columns)) columns (λ column. image_cell columns picks pixels column pick)
    (length-between pixels at (at + columns) within ∙ (let e : at + columns - at ≡ columns = omega arith in e))
    (λ column c. get_or-between pixels at (at + columns) column 0 (omega arith))

pub colours_more : (columns picks n : ℕ) (cell : ℕ → ℕ → ℕ) → n ≡ picks + 1 → colours_by columns n cell ≡ colours_by columns picks cell ++ line_by columns (λ column. cell column picks)
unfolding colours_by
colours_more columns picks n cell is = rw (is, add-one) refl

pub pick_read : (columns picks : ℕ) (colours : List ℕ) (paper : PaperCells) (index n : ℕ) (out : List ℕ) → record { columns = columns; picks = picks; colours = colours } ≡ paper → length colours ≡ picks * columns
    → index < paper.picks → n ≡ paper.columns → out ≡ take n (drop (index * columns) colours) → out ≡ pick_of paper index
pick_read columns picks colours paper index n out is whole low long taken =
    subst (λ (p : PaperCells). index < p.picks → n ≡ p.columns → out ≡ pick_of p index) is (λ low long.
    taken ∙ rw long (line_is 0 (take columns (drop (index * columns) colours)) columns (λ column. get_or colours (index * columns + column) 0)
    (omega (arith, length-take columns (drop (index * columns) colours), length-drop (index * columns) colours, suc-mul index columns, mul-le-mul_right {m = suc index} {n = picks} columns (omega arith)))
    (λ column c. get_or-take columns (drop (index * columns) colours) column 0 c ∙ get_or-drop (index * columns) colours column 0)))
    low long

pub column_read : (columns picks : ℕ) (colours : List ℕ) (paper : PaperCells) (index : ℕ) (out : List ℕ) → record { columns = columns; picks = picks; colours = colours } ≡ paper
    → length out ≡ paper.picks → ((pick : ℕ) → pick < length out → get_or out pick 0 ≡ get_or colours (pick * columns + index) 0) → out ≡ column_of paper index
column_read columns picks colours paper index out is long each =
    subst (λ (p : PaperCells). length out ≡ p.picks → out ≡ column_of p index) is (λ long.
    line_is 0 out picks (λ pick. get_or colours (pick * columns + index) 0) long (λ pick h. each pick (omega arith))) long
