-- What painting a span changes.
use Rattle.std.proofs.Common.{◌≡◌, ◌≢◌, ◌+◌, ◌-◌, ◌*◌, ◌<◌, ◌≤◌, ℕ, suc, List, ◌++◌, length, get_or, take, drop, replicate, sym, ap, ◌∙◌, subst, arith, ◌⊎◌, ⊎_elim, length-append, length-take, length-drop}
use Rattle.std.proofs.Math.Nat.{suc-mul, mul-le-mul_right}
use Rattle.std.proofs.lemmas.Bool.{cases_lt, cases_order, cond-true, cond-false}
use Rattle.std.proofs.lemmas.Bool.Decides.{nat_tests}
use Rattle.std.proofs.lemmas.List.{get_or_append_left, get_or-append_right, get_or-take, get_or-drop, get_or-replicate, length-replicate}
use Rattle.point_paper.specs.declared.paper.Span.{Span}
use Rattle.point_paper.specs.Papers.{PaperCells, IsPaper, cell_of, covers, after_span, paper_by}
use Rattle.point_paper.proofs.lemmas.Cells.{paper_is}

pub after_span-inside : (paper : PaperCells) (span : Span) (column pick : ℕ) → pick ≡ span.pick → span.column ≤ column → column < span.column + span.length → after_span paper span column pick ≡ span.colour
after_span-inside paper span column pick same from to = cond-true (covers span column pick) span.colour (cell_of paper column pick) (grind (arith, nat_tests))

pub after_span-other_pick : (paper : PaperCells) (span : Span) (column pick : ℕ) → pick ≢ span.pick → after_span paper span column pick ≡ cell_of paper column pick
after_span-other_pick paper span column pick other = cond-false (covers span column pick) span.colour (cell_of paper column pick) (grind (arith, nat_tests))

pub after_span-left : (paper : PaperCells) (span : Span) (column pick : ℕ) → column < span.column → after_span paper span column pick ≡ cell_of paper column pick
after_span-left paper span column pick left = cond-false (covers span column pick) span.colour (cell_of paper column pick) (grind (arith, nat_tests))

pub after_span-right : (paper : PaperCells) (span : Span) (column pick : ℕ) → span.column + span.length ≤ column → after_span paper span column pick ≡ cell_of paper column pick
after_span-right paper span column pick right = cond-false (covers span column pick) span.colour (cell_of paper column pick) (grind (arith, nat_tests))

-- a list that was filled with one value in the places from `at` on, `count` of them
abbrev filled : List ℕ → ℕ → ℕ → ℕ → List ℕ
filled xs at count colour = take at xs ++ (replicate count colour ++ drop (at + count) xs)

length-filled : (xs : List ℕ) (at count colour : ℕ) → at + count ≤ length xs → length (filled xs at count colour) ≡ length xs
length-filled xs at count colour room =
    omega (
      arith,
      length-append (take at xs) (replicate count colour ++ drop (at + count) xs),
      length-append (replicate count colour) (drop (at + count) xs),
      length-take at xs,
      length-replicate count colour,
      length-drop (at + count) xs,
    )

filled_before : (xs : List ℕ) (at count colour k : ℕ) → at + count ≤ length xs → k < at → get_or (filled xs at count colour) k 0 ≡ get_or xs k 0
filled_before xs at count colour k room h =
    get_or_append_left (take at xs) (replicate count colour ++ drop (at + count) xs) 0 k (omega (arith, length-take at xs)) ∙ get_or-take at xs k 0 h

filled_here : (xs : List ℕ) (at count colour k : ℕ) → at + count ≤ length xs → at ≤ k → k < at + count → get_or (filled xs at count colour) k 0 ≡ colour
filled_here xs at count colour k room from to =
    get_or-append_right (take at xs) (replicate count colour ++ drop (at + count) xs) at k 0 (omega (arith, length-take at xs)) from
    ∙ get_or_append_left (replicate count colour) (drop (at + count) xs) 0 (k - at) (omega (arith, length-replicate count colour))
    ∙ get_or-replicate count (k - at) colour 0 (omega arith)

filled_behind : (xs : List ℕ) (at count colour k : ℕ) → at + count ≤ length xs → at + count ≤ k → get_or (filled xs at count colour) k 0 ≡ get_or xs k 0
filled_behind xs at count colour k room from =
    get_or-append_right (take at xs) (replicate count colour ++ drop (at + count) xs) at k 0 (omega (arith, length-take at xs)) (omega arith)
    ∙ get_or-append_right (replicate count colour) (drop (at + count) xs) count (k - at) 0 (length-replicate count colour) (omega arith)
    ∙ get_or-drop (at + count) xs (k - at - count) 0
    ∙ (let e : at + count + (k - at - count) ≡ k = omega arith in ap (λ n. get_or xs n 0) e)

-- a cell of a paper whose colour numbers were filled from the span's first cell on
cell_painted : (paper : PaperCells) (span : Span) → IsPaper paper → span.pick < paper.picks → span.column + span.length ≤ paper.columns
    → (column pick : ℕ) → column < paper.columns → pick < paper.picks
    → get_or (filled paper.colours (span.pick * paper.columns + span.column) span.length span.colour) (pick * paper.columns + column) 0 ≡ after_span paper span column pick
cell_painted paper span whole low within column pick c p =
    ⊎_elim
    (λ (same : pick ≡ span.pick).
    let start : pick * paper.columns ≡ span.pick * paper.columns = ap (λ n. n * paper.columns) same in
    ⊎_elim
    (λ (left : column < span.column). filled_before paper.colours at span.length span.colour place room (omega arith) ∙ sym (after_span-left paper span column pick left))
    (λ (from : span.column ≤ column).
    ⊎_elim
    (λ (to : column < span.column + span.length). filled_here paper.colours at span.length span.colour place room (omega arith) (omega arith) ∙ sym (after_span-inside paper span column pick same from to))
    (λ (right : span.column + span.length ≤ column). filled_behind paper.colours at span.length span.colour place room (omega arith) ∙ sym (after_span-right paper span column pick right))
    (cases_lt column (span.column + span.length)))
    (cases_lt column span.column))
    (λ (other : (pick < span.pick) ⊎ (span.pick < pick)).
    ⊎_elim
    (λ (below : pick < span.pick).
    filled_before paper.colours at span.length span.colour place room (omega (arith, suc-mul pick paper.columns, mul-le-mul_right {m = suc pick} {n = span.pick} paper.columns (omega arith)))
    ∙ sym (after_span-other_pick paper span column pick (omega arith)))
    (λ (above : span.pick < pick).
    filled_behind paper.colours at span.length span.colour place room (omega (arith, suc-mul span.pick paper.columns, mul-le-mul_right {m = suc span.pick} {n = pick} paper.columns (omega arith)))
    ∙ sym (after_span-other_pick paper span column pick (omega arith)))
    other)
    (cases_order pick span.pick)
  where
    at : ℕ
    at = span.pick * paper.columns + span.column

    place : ℕ
    place = pick * paper.columns + column

    room : at + span.length ≤ length paper.colours
    room = omega (arith, whole, suc-mul span.pick paper.columns, mul-le-mul_right {m = suc span.pick} {n = paper.picks} paper.columns (omega arith))

pub span_painted : (columns picks : ℕ) (colours : List ℕ) (paper : PaperCells) (span : Span) (new : List ℕ) → record { columns = columns; picks = picks; colours = colours } ≡ paper
    → length colours ≡ picks * columns → span.pick < paper.picks → span.column + span.length ≤ paper.columns
    → new ≡ filled colours (span.pick * columns + span.column) span.length span.colour
    → record { columns = columns; picks = picks; colours = new } ≡ paper_by paper.columns paper.picks (after_span paper span)
span_painted columns picks colours paper span new is whole low within painted =
    subst (λ (q : PaperCells). span.pick < q.picks → span.column + span.length ≤ q.columns → record { columns = columns; picks = picks; colours = new } ≡ paper_by q.columns q.picks (after_span q span)) is
    (λ low within. rw painted (paper_is (record { columns = columns; picks = picks; colours = filled colours at span.length span.colour }) (after_span (record { columns = columns; picks = picks; colours = colours }) span)
    (length-filled colours at span.length span.colour (omega (arith, suc-mul span.pick columns, mul-le-mul_right {m = suc span.pick} {n = picks} columns (omega arith))) ∙ whole)
    (cell_painted (record { columns = columns; picks = picks; colours = colours }) span whole low within)))
    low within
  where
    at : ℕ
    at = span.pick * columns + span.column
