-- Rows of images.
use Rattle.std.proofs.Common.{◌≡◌, ◌+◌, ◌-◌, ◌*◌, ◌<◌, ◌≤◌, ℕ, suc, List, [], ◌∷◌, ◌++◌, length, get_or, take, ap, sym, subst, refl, ◌∙◌, arith, length-append}
use Rattle.std.specs.Prelude.{reverse}
use Rattle.std.specs.List.{concat}
use Rattle.std.proofs.Math.Nat.{suc-mul, mul_comm}
use Rattle.std.proofs.lemmas.List.{append-nil, take_more, take_all, length-reverse, get_or-reverse}
use Rattle.std.proofs.lemmas.List.Folds.{concat-append}
use Rattle.cloth_files.specs.Images.{pixels_of}

-- one more row of an image, from the top down
pub rows_more : (rows : List (List ℕ)) (k : ℕ) → k < length rows
    → concat (take (k + 1) (reverse rows)) ≡ concat (take k (reverse rows)) ++ get_or rows (length rows - 1 - k) []
rows_more rows k h =
    let there : k < length (reverse rows) = subst (λ n. k < n) (sym (length-reverse rows)) h in
    ap concat (take_more (reverse rows) k [] there)
    ∙ concat-append (take k (reverse rows)) (get_or (reverse rows) k [] ∷ [])
    ∙ ap (λ row. concat (take k (reverse rows)) ++ row) (append-nil (get_or (reverse rows) k []) ∙ get_or-reverse rows k [] h)

-- all rows
pub rows_all : (rows : List (List ℕ)) (k : ℕ) → length rows ≤ k → concat (take k (reverse rows)) ≡ pixels_of rows
rows_all rows k h = ap concat (take_all k (reverse rows) (subst (λ n. n ≤ k) (sym (length-reverse rows)) h))

length-concat_even : (rows : List (List ℕ)) (width : ℕ) → ((k : ℕ) → k < length rows → length (get_or rows k []) ≡ width) → length (concat rows) ≡ length rows * width
length-concat_even [] width even = let none : length (concat []) ≡ 0 = refl in omega (arith, none)
length-concat_even (row ∷ rows) width even =
    let here : length row ≡ width = even 0 (omega arith) in
    let rest : length (concat rows) ≡ length rows * width = length-concat_even rows width (λ k h. even (suc k) (omega arith)) in
    omega (arith, length-append row (concat rows), suc-mul (length rows) width, here, rest)

-- as many pixels as the rows have together
pub length-pixels_of : (rows : List (List ℕ)) (height width : ℕ) → length rows ≡ height → ((k : ℕ) → k < height → length (get_or rows k []) ≡ width)
    → length (pixels_of rows) ≡ width * height
length-pixels_of rows height width high even =
    let many : length (reverse rows) ≡ height = length-reverse rows ∙ high in
    length-concat_even (reverse rows) width (λ k h. ap length (get_or-reverse rows k [] (omega (arith, many, high, h))) ∙ even (length rows - 1 - k) (omega (arith, many, high, h)))
    ∙ ap (λ n. n * width) many ∙ mul_comm height width
