-- Lists of which one is put behind another.
use Rattle.std.proofs.Common.{◌≢◌, ◌≡◌, ◌⊎◌, inl, inr, ◌+◌, ◌-◌, ◌<◌, ◌≤◌, ◌==◌, ℕ, zero, suc, map, Bool, true, false, cond, List, [], ◌∷◌, ◌++◌, length, get_or, length-append, refl, ap, ◌∙◌, arith, Some}
use Rattle.std.proofs.lemmas.Bool.{cases_lt}
use Rattle.std.proofs.lemmas.Bool.Decides.{nat_tests}
use Rattle.std.specs.Prelude.{slice_get, All, filter, count_by}
use Rattle.std.specs.List.Sorted.{IsNonDecreasing}
use Rattle.std.proofs.lemmas.List.{get_or_append_left, get_or-append-add}
use Rattle.std.proofs.lemmas.Option.{slice_get_within, slice_get-get_or, get_or_from_slice_get}
use Rattle.std.proofs.lemmas.List.Sums.{sum_by-cons}

pub kept : {X : Type 0} (xs ys : List X) (k : ℕ) (x : X) → slice_get xs k ≡ Some x → slice_get (xs ++ ys) k ≡ Some x
kept xs ys k x h =
    let w = slice_get_within xs k x h in
    slice_get-get_or (xs ++ ys) k x (omega (arith, length-append xs ys))
    ∙ ap Some (get_or_append_left xs ys x k w ∙ get_or_from_slice_get xs k x x h)

pub All_tail : {X : Type 0} (P : X → Type 0) (x : X) (xs : List X) → All P (x ∷ xs) → All P xs
All_tail P x xs all k d h = all (suc k) d (omega arith)

pub All_mono : {X : Type 0} (P Q : X → Type 0) (xs : List X) → ((x : X) → P x → Q x) → All P xs → All Q xs
All_mono P Q xs f all k d h = f (get_or xs k d) (all k d h)

-- what is behind the first list
at_right : {X : Type 0} (xs ys : List X) (d : X) (n : ℕ) → length xs ≤ n → get_or (xs ++ ys) n d ≡ get_or ys (n - length xs) d
at_right xs ys d n h = ap (λ m. get_or (xs ++ ys) m d) (let e : n ≡ length xs + (n - length xs) = omega arith in e) ∙ get_or-append-add xs ys (n - length xs) d

pub rises : (xs ys : List ℕ) (m : ℕ) → IsNonDecreasing xs → IsNonDecreasing ys → All (λ x. x ≤ m) xs → All (λ y. m ≤ y) ys → IsNonDecreasing (xs ++ ys)
rises xs ys m a b low high i j d up below = by (cases_lt j (length xs)) (cases_lt i (length xs)) where
  by : (j < length xs) ⊎ (length xs ≤ j) → (i < length xs) ⊎ (length xs ≤ i) → get_or (xs ++ ys) i d ≤ get_or (xs ++ ys) j d
  by (inl p) q = omega (arith, get_or_append_left xs ys d j p, get_or_append_left xs ys d i (omega arith), a i j d up p)
  by (inr p) (inl q) = omega (arith, length-append xs ys, at_right xs ys d j p, get_or_append_left xs ys d i q, low i d q, high (j - length xs) d (omega (arith, length-append xs ys)))
  by (inr p) (inr q) = omega (arith, at_right xs ys d j p, at_right xs ys d i q, b (i - length xs) (j - length xs) d (omega arith) (omega (arith, length-append xs ys)))

pub filter_none : {X : Type 0} (p : X → Bool) (xs : List X) → All (λ x. p x ≡ false) xs → filter p xs ≡ []
filter_none p [] all = refl
filter_none p (x ∷ xs) all = ap (λ b. cond b (x ∷ filter p xs) (filter p xs)) (all 0 x (omega arith)) ∙ filter_none p xs (All_tail (λ x. p x ≡ false) x xs all)

pub filter_all : {X : Type 0} (p : X → Bool) (xs : List X) → All (λ x. p x ≡ true) xs → filter p xs ≡ xs
filter_all p [] all = refl
filter_all p (x ∷ xs) all =
    ap (λ b. cond b (x ∷ filter p xs) (filter p xs)) (all 0 x (omega arith)) ∙ ap (λ l. x ∷ l) (filter_all p xs (All_tail (λ x. p x ≡ true) x xs all))

pub count_none : {X : Type 0} (p : X → Bool) (xs : List X) → All (λ x. p x ≡ false) xs → count_by p xs ≡ 0
count_none p [] all = refl
count_none p (x ∷ xs) all =
    let first : ◌≡◌ {A = ℕ} (cond (p x) 1 0) 0 = ap (λ b. cond b 1 0) (all 0 x (omega arith)) in
    omega (arith, sum_by-cons (λ x. cond (p x) 1 0) x xs, first, count_none p xs (All_tail (λ x. p x ≡ false) x xs all))

pub count_all : {X : Type 0} (p : X → Bool) (xs : List X) → All (λ x. p x ≡ true) xs → count_by p xs ≡ length xs
count_all p [] all = refl
count_all p (x ∷ xs) all =
    let first : ◌≡◌ {A = ℕ} (cond (p x) 1 0) 1 = ap (λ b. cond b 1 0) (all 0 x (omega arith)) in
    omega (arith, sum_by-cons (λ x. cond (p x) 1 0) x xs, first, count_all p xs (All_tail (λ x. p x ≡ true) x xs all))

pub All_unmap : {X Y : Type 0} (f : X → Y) (xs : List X) (P : Y → Type 0) → All P (map f xs) → All (λ x. P (f x)) xs
All_unmap f [] P all k d h = absurd (omega arith)
All_unmap f (x ∷ xs) P all zero d h = all 0 (f x) (omega arith)
All_unmap f (x ∷ xs) P all (suc k) d h = All_unmap f xs P (All_tail P (f x) (map f xs) all) k d (omega arith)

pub map_twice : {X Y Z : Type 0} (f : X → Y) (g : Y → Z) (xs : List X) → map g (map f xs) ≡ map (λ x. g (f x)) xs
map_twice f g [] = refl
map_twice f g (x ∷ xs) = ap (λ l. g (f x) ∷ l) (map_twice f g xs)

-- tests for a number
pub not_of : (s k : ℕ) → s ≢ k → (s == k) ≡ false
not_of s k h = grind (arith, nat_tests)

pub is_of : (s k : ℕ) → s ≡ k → (s == k) ≡ true
is_of s k h = grind (arith, nat_tests)
