-- The answers of the numbers below a bound, and the first of them: as the faults of a list's items.
use Rattle.std.proofs.Common.{◌≡◌, ◌≢◌, ⊎_elim, ℕ, zero, suc, ◌+◌, ◌-◌, ◌<◌, ◌≤◌, List, [], ◌∷◌, ◌++◌, Option, Some, None, ap, refl, ◌∙◌, arith, slice_get, filter_map}
use Rattle.std.specs.List.{range_with_len, cons_option}
use Rattle.std.proofs.lemmas.Bool.{cases_eq}
use Rattle.std.proofs.lemmas.List.Elements.{filter_map-append}
use Rattle.mill_base.proofs.lemmas.Ranges.{range_more, range_at}

-- no answer below k, and none at k
pub none_more : {A : Type 0} (h : ℕ → Option A) (k : ℕ) → filter_map h (range_with_len 0 k) ≡ [] → h k ≡ None → filter_map h (range_with_len 0 (k + 1)) ≡ []
none_more h k before here =
    ap (filter_map h) (range_more 0 k k (omega arith)) ∙ filter_map-append h (range_with_len 0 k) (k ∷ [])
    ∙ ap (λ xs. xs ++ filter_map h (k ∷ [])) before ∙ ap (λ o. [] ++ cons_option o []) here

-- no answer below k, and one at k: it is the first
pub first_here : {A : Type 0} (h : ℕ → Option A) (k n : ℕ) (y : A) → filter_map h (range_with_len 0 k) ≡ [] → h k ≡ Some y → k < n → slice_get (filter_map h (range_with_len 0 n)) 0 ≡ Some y
first_here h k n y before here below = ap (λ xs. slice_get xs 0) (
    ap (filter_map h) (range_at k n below) ∙ filter_map-append h (range_with_len 0 k) (k ∷ range_with_len (k + 1) (n - k - 1))
    ∙ ap (λ xs. xs ++ filter_map h (k ∷ range_with_len (k + 1) (n - k - 1))) before
    ∙ ap (λ o. [] ++ cons_option o (filter_map h (range_with_len (k + 1) (n - k - 1)))) here
    )

-- no answer at any number below n: none at all
pub none_all : {A : Type 0} (h : ℕ → Option A) (n : ℕ) → ((k : ℕ) → k < n → h k ≡ None) → filter_map h (range_with_len 0 n) ≡ []
none_all h n each = all 0 n (λ k low high. each k (omega arith)) where
  all : (a n : ℕ) → ((k : ℕ) → a ≤ k → k < a + n → h k ≡ None) → filter_map h (range_with_len a n) ≡ []
  all a zero each = refl
  all a (suc n) each =
      ap (λ o. cons_option o (filter_map h (range_with_len (a + 1) n))) (each a (omega arith) (omega arith))
      ∙ all (a + 1) n (λ k low high. each k (omega arith) (omega arith))

-- no answer below n: none at any number below n
pub none_each : {A : Type 0} (h : ℕ → Option A) (n k : ℕ) → filter_map h (range_with_len 0 n) ≡ [] → k < n → h k ≡ None
none_each h n k none below = each 0 n k none (omega arith) (omega arith) where
  nil_of_cons : {A : Type 0} (o : Option A) (xs : List A) → cons_option o xs ≡ [] → (o ≡ None) × (xs ≡ [])
  nil_of_cons None xs e = (refl, e)
  nil_of_cons (Some y) xs e = absurd (cc)

  each : (a n k : ℕ) → filter_map h (range_with_len a n) ≡ [] → a ≤ k → k < a + n → h k ≡ None
  each a zero k e low high = absurd (omega arith)
  each a (suc n) k e low high = ⊎_elim
      (λ (here : k ≡ a). ap h here ∙ (nil_of_cons (h a) (filter_map h (range_with_len (a + 1) n)) e).0)
      (λ (later : k ≢ a). each (a + 1) n k (nil_of_cons (h a) (filter_map h (range_with_len (a + 1) n)) e).1 (omega arith) (omega arith)) (cases_eq k a)

-- the first of two lists one after the other
pub nil_append : {A : Type 0} (xs ys : List A) → slice_get (xs ++ ys) 0 ≡ None → (xs ≡ []) × (ys ≡ [])
nil_append [] [] e = (refl, refl)
nil_append [] (y ∷ ys) e = absurd (cc)
nil_append (x ∷ xs) ys e = absurd (cc)

pub first_of_left : {A : Type 0} (xs ys : List A) (y : A) → slice_get xs 0 ≡ Some y → slice_get (xs ++ ys) 0 ≡ Some y
first_of_left [] ys y e = absurd (cc)
first_of_left (x ∷ xs) ys y e = e
