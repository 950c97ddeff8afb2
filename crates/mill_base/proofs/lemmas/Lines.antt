-- Lines by the formula of their cells.
use Rattle.std.proofs.Common.{◌≡◌, ◌≢◌, ◌+◌, ◌<◌, ◌≤◌, ℕ, List, [], ◌∷◌, ◌++◌, length, get_or, set, take, sum_by, replicate, sym, subst, ◌∙◌, ⊎_elim, get_or-set_same, get_or-set_other, arith}
use Rattle.std.proofs.lemmas.Bool.{cases_eq}
use Rattle.std.proofs.lemmas.List.{ext_get_or, length-replicate, get_or-replicate}
use Rattle.std.proofs.lemmas.List.FromFn.{length-map-range_with_len, get_or-map-range_with_len, take-map-range_with_len, map-range_with_len_more, sum_by-map-range_with_len_more}
use Rattle.mill_base.specs.Lines.{line_by}

pub length-line_by : {A : Type 0} (n : ℕ) (cell : ℕ → A) → length (line_by n cell) ≡ n
unfolding line_by
length-line_by n cell = length-map-range_with_len cell 0 n

pub get_or-line_by : {A : Type 0} (n : ℕ) (cell : ℕ → A) (k : ℕ) (d : A) → k < n → get_or (line_by n cell) k d ≡ cell k
unfolding line_by
get_or-line_by n cell k d h = get_or-map-range_with_len cell 0 n k k d h (omega arith)

-- a list whose items are the formula's
pub line_is : {A : Type 0} (d : A) (xs : List A) (n : ℕ) (cell : ℕ → A) → length xs ≡ n → ((k : ℕ) → k < n → get_or xs k d ≡ cell k) → xs ≡ line_by n cell
line_is d xs n cell long each = ext_get_or d xs (line_by n cell) (long ∙ sym (length-line_by n cell))
    (λ k h. let below : k < n = omega arith in each k below ∙ sym (get_or-line_by n cell k d below))

-- formulas that agree on each cell make one line
pub line_by_alike : {A : Type 0} (d : A) (n : ℕ) (one other : ℕ → A) → ((k : ℕ) → k < n → one k ≡ other k) → line_by n one ≡ line_by n other
line_by_alike d n one other same = line_is d (line_by n one) n other (length-line_by n one) (λ k h. get_or-line_by n one k d h ∙ same k h)

-- one more cell
pub line_by_more : {A : Type 0} (n : ℕ) (cell : ℕ → A) → line_by (n + 1) cell ≡ line_by n cell ++ cell n ∷ []
unfolding line_by
line_by_more n cell = map-range_with_len_more cell 0 n n (omega arith)

-- the front of a line
pub take-line_by : {A : Type 0} (n : ℕ) (cell : ℕ → A) (k : ℕ) → k ≤ n → take k (line_by n cell) ≡ line_by k cell
unfolding line_by
take-line_by n cell k h = take-map-range_with_len cell 0 n k h

pub sum_by-line_by_more : {A : Type 0} (g : A → ℕ) (n : ℕ) (cell : ℕ → A) → sum_by g (line_by (n + 1) cell) ≡ sum_by g (line_by n cell) + g (cell n)
unfolding line_by
sum_by-line_by_more g n cell = sum_by-map-range_with_len_more g cell 0 n n (omega arith)

-- a line of one item over and over
pub line_of_one : {A : Type 0} (n : ℕ) (x : A) → replicate n x ≡ line_by n (λ k. x)
line_of_one n x = line_is x (replicate n x) n (λ k. x) (length-replicate n x) (λ k h. get_or-replicate n k x x h)

-- one more place of a list has the formula's item
pub one_more : {A : Type 0} (d : A) (xs : List A) (k : ℕ) (x : A) (cell : ℕ → A) → k < length xs → x ≡ cell k → ((j : ℕ) → j < k → get_or xs j d ≡ cell j)
    → (j : ℕ) → j < k + 1 → get_or (set xs k x) j d ≡ cell j
one_more d xs k x cell there is before j below = ⊎_elim
    (λ (here : j ≡ k). subst (λ m. get_or (set xs k x) m d ≡ cell m) (sym here) (get_or-set_same xs k x d there ∙ is))
    (λ (apart : j ≢ k). get_or-set_other xs k j x d apart ∙ before j (omega arith))
    (cases_eq j k)
