-- Texts that grow line by line.
use Rattle.std.proofs.Common.{◌≡◌, ◌+◌, ◌<◌, ◌≤◌, ℕ, zero, suc, List, [], ◌∷◌, ◌++◌, take, length, get_or, sym, ap, ◌∙◌, append_assoc, append-nil, add-one, arith}
use Rattle.std.proofs.lemmas.List.{take_all}
use Rattle.report_text.specs.Reports.{lines_from}

lines_suc : {X : Type 0} (lines : ℕ → X → List ℕ) (xs : List X) (n i : ℕ) (d : X) → i < length xs
    → lines_from n lines (take (suc i) xs) ≡ lines_from n lines (take i xs) ++ lines (n + i) (get_or xs i d)
lines_suc lines [] n i d h = absurd (omega (arith, h))
lines_suc lines (x ∷ xs) n zero d h = let e : n ≡ n + 0 = omega arith in append-nil (lines n x) ∙ ap (λ m. lines m x) e
lines_suc lines (x ∷ xs) n (suc i) d h =
    let e : n + 1 + i ≡ n + suc i = omega arith in
    ap (λ l. lines n x ++ l) (lines_suc lines xs (n + 1) i d (omega (arith, h)))
    ∙ sym (append_assoc (lines n x) (lines_from (n + 1) lines (take i xs)) (lines (n + 1 + i) (get_or xs i d)))
    ∙ ap (λ m. (lines n x ++ lines_from (n + 1) lines (take i xs)) ++ lines m (get_or xs i d)) e

-- behind the lines of the first i items come those of item i
pub one_more : {X : Type 0} (lines : ℕ → X → List ℕ) (xs : List X) (i : ℕ) (d : X) (before now next : List ℕ) → i < length xs
    → now ≡ before ++ lines_from 0 lines (take i xs) → next ≡ now ++ lines i (get_or xs i d) → next ≡ before ++ lines_from 0 lines (take (i + 1) xs)
one_more lines xs i d before now next h first then =
    let e : 0 + i ≡ i = omega arith in
    let more : lines_from 0 lines (take (i + 1) xs) ≡ lines_from 0 lines (take i xs) ++ lines i (get_or xs i d) =
    ap (λ m. lines_from 0 lines (take m xs)) (add-one i) ∙ lines_suc lines xs 0 i d h ∙ ap (λ m. lines_from 0 lines (take i xs) ++ lines m (get_or xs i d)) e in
    then ∙ ap (λ l. l ++ lines i (get_or xs i d)) first ∙ append_assoc before (lines_from 0 lines (take i xs)) (lines i (get_or xs i d)) ∙ ap (λ l. before ++ l) (sym more)
