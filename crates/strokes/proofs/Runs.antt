-- Cells that are laid on a pick, run by run.
use Rattle.std.proofs.Common.{◌≡◌, ◌≢◌, ℕ, ◌+◌, ◌-◌, ◌<◌, ◌≤◌, Bool, true, false, cond, ◌&&◌, List, length, take, drop, get_or, ap, sym, refl, ◌∙◌, ◌⊎◌, ⊎_elim, arith}
use Rattle.std.specs.Prelude.{◌==◌, nat_le, nat_lt, Option, None}
use Rattle.std.specs.Option.{option_or}
use Rattle.std.proofs.lemmas.Bool.{cases_eq, cases_lt, cond-true, cond-false}
use Rattle.std.proofs.lemmas.Bool.Decides.{nat_tests}
use Rattle.std.proofs.lemmas.List.{get_or_past, get_or-take, get_or-drop, length-take-le}
use Rattle.strokes.specs.Paints.{steps_round}
use Rattle.strokes.specs.inner.Spans.{run, laid, laid_round}
use Rattle.strokes.proofs.Covers.{or_none}
use Rattle.strokes.proofs.Rounds.{steps_ahead, steps_past}

laid_other : (cells : List (Option ℕ)) (column pick c p : ℕ) → p ≢ pick → laid cells column pick c p ≡ None
laid_other cells column pick c p other = cond-false ((p == pick) && nat_le column c) (get_or cells (c - column) None) None (grind (arith, nat_tests))

laid_left : (cells : List (Option ℕ)) (column pick c p : ℕ) → c < column → laid cells column pick c p ≡ None
laid_left cells column pick c p left = cond-false ((p == pick) && nat_le column c) (get_or cells (c - column) None) None (grind (arith, nat_tests))

laid_here : (cells : List (Option ℕ)) (column pick c p : ℕ) → p ≡ pick → column ≤ c → laid cells column pick c p ≡ get_or cells (c - column) None
laid_here cells column pick c p same from = cond-true ((p == pick) && nat_le column c) (get_or cells (c - column) None) None (grind (arith, nat_tests))

run_other : (cell : Option ℕ) (column pick count c p : ℕ) → p ≢ pick → run cell column pick count c p ≡ None
run_other cell column pick count c p other = cond-false ((p == pick) && nat_le column c && nat_lt c (column + count)) cell None (grind (arith, nat_tests))

run_left : (cell : Option ℕ) (column pick count c p : ℕ) → c < column → run cell column pick count c p ≡ None
run_left cell column pick count c p left = cond-false ((p == pick) && nat_le column c && nat_lt c (column + count)) cell None (grind (arith, nat_tests))

run_right : (cell : Option ℕ) (column pick count c p : ℕ) → column + count ≤ c → run cell column pick count c p ≡ None
run_right cell column pick count c p right = cond-false ((p == pick) && nat_le column c && nat_lt c (column + count)) cell None (grind (arith, nat_tests))

run_here : (cell : Option ℕ) (column pick count c p : ℕ) → p ≡ pick → column ≤ c → c < column + count → run cell column pick count c p ≡ cell
run_here cell column pick count c p same from to = cond-true ((p == pick) && nat_le column c && nat_lt c (column + count)) cell None (grind (arith, nat_tests))

-- a run that is not painted
pub run_none : (column pick count c p : ℕ) → run None column pick count c p ≡ None
run_none column pick count c p = by ((p == pick) && nat_le column c && nat_lt c (column + count)) where
  by : (b : Bool) → cond {A = Option ℕ} b None None ≡ None
  by true = refl
  by false = refl

-- no cell is laid
pub laid_nothing : (cells : List (Option ℕ)) (column pick c p : ℕ) → length cells ≡ 0 → laid cells column pick c p ≡ None
laid_nothing cells column pick c p none =
    ap (λ x. cond ((p == pick) && nat_le column c) x None) (get_or_past cells (c - column) None (omega (arith, none))) ∙ by ((p == pick) && nat_le column c) where
      by : (b : Bool) → cond {A = Option ℕ} b None None ≡ None
      by true = refl
      by false = refl

-- one run more of the front of cells
pub laid_more : (cells : List (Option ℕ)) (start end column pick c p : ℕ) (cell : Option ℕ) → start ≤ end → end ≤ length cells
    → ((k : ℕ) → start ≤ k → k < end → get_or cells k None ≡ cell)
    → option_or (run cell (column + start) pick (end - start) c p) (laid (take start cells) column pick c p) ≡ laid (take end cells) column pick c p
laid_more cells start end column pick c p cell ahead within equal = ⊎_elim
    (λ (same : p ≡ pick). ⊎_elim
    (λ (left : c < column).
    ap (λ o. option_or o (laid (take start cells) column pick c p)) (run_left cell (column + start) pick (end - start) c p (omega arith))
    ∙ laid_left (take start cells) column pick c p left ∙ sym (laid_left (take end cells) column pick c p left))
    (λ (from : column ≤ c). on_pick same from)
    (cases_lt c column))
    (λ (other : p ≢ pick).
    ap (λ o. option_or o (laid (take start cells) column pick c p)) (run_other cell (column + start) pick (end - start) c p other)
    ∙ laid_other (take start cells) column pick c p other ∙ sym (laid_other (take end cells) column pick c p other))
    (cases_eq p pick)
  where
    front : laid (take start cells) column pick c p ≡ laid (take end cells) column pick c p → run cell (column + start) pick (end - start) c p ≡ None
        → option_or (run cell (column + start) pick (end - start) c p) (laid (take start cells) column pick c p) ≡ laid (take end cells) column pick c p
    front same none = ap (λ o. option_or o (laid (take start cells) column pick c p)) none ∙ same

    long : (n : ℕ) → n ≤ length cells → length (take n cells) ≡ n
    long n h = length-take-le n cells h

    on_pick : p ≡ pick → column ≤ c
        → option_or (run cell (column + start) pick (end - start) c p) (laid (take start cells) column pick c p) ≡ laid (take end cells) column pick c p
    on_pick same from = ⊎_elim
        (λ (before : c - column < start). front
        (laid_here (take start cells) column pick c p same from ∙ get_or-take start cells (c - column) None before
        ∙ sym (get_or-take end cells (c - column) None (omega arith)) ∙ sym (laid_here (take end cells) column pick c p same from))
        (run_left cell (column + start) pick (end - start) c p (omega arith)))
        (λ (behind : start ≤ c - column). ⊎_elim
        (λ (here : c - column < end).
        ap (λ o. option_or o (laid (take start cells) column pick c p)) (run_here cell (column + start) pick (end - start) c p same (omega arith) (omega arith))
        ∙ ap (option_or cell) (laid_here (take start cells) column pick c p same from ∙ get_or_past (take start cells) (c - column) None (omega (arith, long start (omega arith))))
        ∙ or_none cell ∙ sym (equal (c - column) behind here) ∙ sym (get_or-take end cells (c - column) None here) ∙ sym (laid_here (take end cells) column pick c p same from))
        (λ (past : end ≤ c - column). front
        (laid_here (take start cells) column pick c p same from ∙ get_or_past (take start cells) (c - column) None (omega (arith, long start (omega arith)))
        ∙ sym (get_or_past (take end cells) (c - column) None (omega (arith, long end within))) ∙ sym (laid_here (take end cells) column pick c p same from))
        (run_right cell (column + start) pick (end - start) c p (omega arith)))
        (cases_lt (c - column) end))
        (cases_lt (c - column) start)

-- cells that are cut at the edge of the repeat lie round it
pub laid_cut : (cells : List (Option ℕ)) (columns column pick edge c p : ℕ) → column < columns → length cells ≤ columns → c < columns → edge ≡ length cells ⊎ edge ≡ columns - column
    → edge ≤ length cells → edge ≤ columns - column
    → option_or (laid (drop edge cells) 0 pick c p) (laid (take edge cells) column pick c p) ≡ laid_round cells columns column pick c p
laid_cut cells columns column pick edge c p start few below cut short near = ⊎_elim
    (λ (same : p ≡ pick). ⊎_elim
    (λ (past : c < column).
    ap (option_or (laid (drop edge cells) 0 pick c p)) (laid_left (take edge cells) column pick c p past) ∙ or_none (laid (drop edge cells) 0 pick c p)
    ∙ behind same ∙ ⊎_elim
    (λ (whole : edge ≡ length cells). get_or_past cells (edge + c) None (omega (arith, whole)) ∙ sym (get_or_past cells (c + columns - column) None (omega (arith, whole, near))))
    (λ (edge_is : edge ≡ columns - column). let place : edge + c ≡ c + columns - column = omega (arith, edge_is, start) in ap (λ k. get_or cells k None) place)
    cut ∙ ap (λ k. get_or cells k None) (sym (steps_past columns column c past start)) ∙ sym (round_here same))
    (λ (ahead : column ≤ c).
    ap (λ o. option_or o (laid (take edge cells) column pick c p)) (behind same ∙ get_or_past cells (edge + c) None (⊎_elim
    (λ (whole : edge ≡ length cells). omega (arith, whole))
    (λ (edge_is : edge ≡ columns - column). omega (arith, edge_is, start, few, ahead))
    cut))
    ∙ laid_here (take edge cells) column pick c p same ahead
    ∙ ⊎_elim
    (λ (inside : c - column < edge). get_or-take edge cells (c - column) None inside)
    (λ (outside : edge ≤ c - column).
    get_or_past (take edge cells) (c - column) None (omega (arith, length-take-le edge cells short, outside))
    ∙ sym (get_or_past cells (c - column) None (⊎_elim
    (λ (whole : edge ≡ length cells). omega (arith, whole, outside))
    (λ (edge_is : edge ≡ columns - column). absurd (omega (arith, edge_is, start, below, ahead, outside)))
    cut)))
    (cases_lt (c - column) edge)
    ∙ ap (λ k. get_or cells k None) (sym (steps_ahead columns column c ahead below)) ∙ sym (round_here same))
    (cases_lt c column))
    (λ (other : p ≢ pick).
    ap (λ o. option_or o (laid (take edge cells) column pick c p)) (laid_other (drop edge cells) 0 pick c p other) ∙ laid_other (take edge cells) column pick c p other
    ∙ sym (cond-false (p == pick) (get_or cells (steps_round columns column c) None) None (grind (arith, nat_tests))))
    (cases_eq p pick)
  where
    round_here : p ≡ pick → laid_round cells columns column pick c p ≡ get_or cells (steps_round columns column c) None
    round_here same = cond-true (p == pick) (get_or cells (steps_round columns column c) None) None (grind (arith, nat_tests))

    behind : p ≡ pick → laid (drop edge cells) 0 pick c p ≡ get_or cells (edge + c) None
    behind same =
        let place : edge + (c - 0) ≡ edge + c = omega arith in
        laid_here (drop edge cells) 0 pick c p same (omega arith) ∙ get_or-drop edge cells (c - 0) None ∙ ap (λ k. get_or cells k None) place
