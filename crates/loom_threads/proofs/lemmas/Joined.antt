-- Lists of which one is put behind another.
use Rattle.std.proofs.Common.{◌≡◌, ◌⊎◌, inl, inr, ◌+◌, ◌-◌, ◌<◌, ◌≤◌, ℕ, zero, suc, List, [], ◌∷◌, ◌++◌, length, get_or, length-append, ap, ◌∙◌, arith, Some}
use Rattle.std.specs.Prelude.{All, slice_get}
use Rattle.std.specs.List.Sorted.{IsNonDecreasing}
use Rattle.std.proofs.lemmas.Bool.{cases_lt}
use Rattle.std.proofs.lemmas.List.{get_or-append-add, get_or_append_left}
use Rattle.std.proofs.lemmas.Option.{get_or_from_slice_get, slice_get-get_or, slice_get_within}

-- an item of the first list
pub kept : {X : Type 0} (xs ys : List X) (k : ℕ) (x : X) → slice_get xs k ≡ Some x → slice_get (xs ++ ys) k ≡ Some x
kept xs ys k x h =
    let low = slice_get_within xs k x h in
    slice_get-get_or (xs ++ ys) k x (omega (arith, length-append xs ys)) ∙ ap Some (get_or_append_left xs ys x k low ∙ get_or_from_slice_get xs k x x h)

-- the last item
pub last_item : {X : Type 0} (xs : List X) (x : X) → slice_get (xs ++ x ∷ []) (length xs) ≡ Some x
last_item xs x =
    slice_get-get_or (xs ++ x ∷ []) (length xs) x (omega (arith, length-append xs (x ∷ [])))
    ∙ ap Some (ap (λ k. get_or (xs ++ x ∷ []) k x) (let e : length xs ≡ length xs + 0 = omega arith in e) ∙ get_or-append-add xs (x ∷ []) 0 x)

pub all_one : {X : Type 0} (P : X → Type 0) (x : X) → P x → All P (x ∷ [])
all_one P x p zero d h = p
all_one P x p (suc i) d h = absurd (omega arith)

pub all_mono : {X : Type 0} (P Q : X → Type 0) (xs : List X) → ((x : X) → P x → Q x) → All P xs → All Q xs
all_mono P Q xs more all k d h = more (get_or xs k d) (all k d h)

-- an item behind the first list
behind : {X : Type 0} (xs ys : List X) (d : X) (n : ℕ) → length xs ≤ n → get_or (xs ++ ys) n d ≡ get_or ys (n - length xs) d
behind xs ys d n h = ap (λ m. get_or (xs ++ ys) m d) (let e : n ≡ length xs + (n - length xs) = omega arith in e) ∙ get_or-append-add xs ys (n - length xs) d

-- numbers that never fall, and behind them others, all of which are at least as great
pub never_fall : (xs ys : List ℕ) (m : ℕ) → IsNonDecreasing xs → IsNonDecreasing ys → All (λ x. x ≤ m) xs → All (λ y. m ≤ y) ys → IsNonDecreasing (xs ++ ys)
never_fall xs ys m a b low high i j d up below = by (cases_lt j (length xs)) (cases_lt i (length xs)) where
  by : (j < length xs) ⊎ (length xs ≤ j) → (i < length xs) ⊎ (length xs ≤ i) → get_or (xs ++ ys) i d ≤ get_or (xs ++ ys) j d
  by (inl p) q = omega (arith, get_or_append_left xs ys d j p, get_or_append_left xs ys d i (omega arith), a i j d up p)
  by (inr p) (inl q) = omega (arith, length-append xs ys, behind xs ys d j p, get_or_append_left xs ys d i q, low i d q, high (j - length xs) d (omega (arith, length-append xs ys)))
  by (inr p) (inr q) = omega (arith, behind xs ys d j p, behind xs ys d i q, b (i - length xs) (j - length xs) d (omega arith) (omega (arith, length-append xs ys)))
