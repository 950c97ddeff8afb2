-- Ranges of numbers.
use Rattle.std.proofs.Common.{◌≡◌, ◌≢◌, ℕ, zero, suc, ◌+◌, ◌-◌, ◌<◌, Bool, true, cond, [], ◌∷◌, ◌++◌, filter, Contains, sym, ap, subst, refl, ◌∙◌, ⊎_elim, arith}
use Rattle.std.specs.List.{range_with_len}
use Rattle.std.proofs.lemmas.Bool.{cases_eq, cond-true}
use Rattle.std.proofs.lemmas.List.{map-id}
use Rattle.std.proofs.lemmas.List.FromFn.{map-range_with_len_more}
use Rattle.std.proofs.lemmas.List.Elements.{filter-append, Contains-append_left, Contains-push}

-- one more number
pub range_more : (a n j : ℕ) → a + n ≡ j → range_with_len a (n + 1) ≡ range_with_len a n ++ j ∷ []
range_more a n j e =
    sym (map-id (range_with_len a (n + 1))) ∙ map-range_with_len_more (λ x. x) a n j e ∙ ap (λ xs. xs ++ j ∷ []) (map-id (range_with_len a n))

-- a range in two parts
pub range_split : (a k m : ℕ) → range_with_len a (k + m) ≡ range_with_len a k ++ range_with_len (a + k) m
range_split a zero m =
    let e : 0 + m ≡ m = omega arith in
    let f : a + 0 ≡ a = omega arith in
    rw (e, f) refl
range_split a (suc k) m =
    let e : suc k + m ≡ suc (k + m) = omega arith in
    let f : a + suc k ≡ a + 1 + k = omega arith in
    rw (e, f) (ap (λ xs. a ∷ xs) (range_split (a + 1) k m))

-- the numbers below n: those below k, k itself, and the rest
pub range_at : (k n : ℕ) → k < n → range_with_len 0 n ≡ range_with_len 0 k ++ k ∷ range_with_len (k + 1) (n - k - 1)
range_at k n below =
    let e : k + suc (n - k - 1) ≡ n = omega arith in
    let f : 0 + k ≡ k = omega arith in
    ap (range_with_len 0) (sym e) ∙ range_split 0 k (suc (n - k - 1)) ∙ ap (λ m. range_with_len 0 k ++ range_with_len m (suc (n - k - 1))) f

-- a number below n that passes is among those that are kept
pub kept_at : (p : ℕ → Bool) (n h : ℕ) → h < n → p h ≡ true → Contains (filter p (range_with_len 0 n)) h
kept_at p zero h low passes = absurd (omega arith)
kept_at p (suc n) h low passes =
    let e : n + 1 ≡ suc n = omega arith in
    subst (λ m. Contains (filter p (range_with_len 0 m)) h) e
    (subst (λ xs. Contains xs h) (sym (ap (filter p) (range_more 0 n n (omega arith)) ∙ filter-append p (range_with_len 0 n) (n ∷ [])))
    (⊎_elim
    (λ (here : h ≡ n).
    subst (λ xs. Contains (filter p (range_with_len 0 n) ++ xs) h) (sym (cond-true (p n) (n ∷ []) [] (ap p (sym here) ∙ passes)))
    (subst (λ x. Contains (filter p (range_with_len 0 n) ++ x ∷ []) h) here (Contains-push (filter p (range_with_len 0 n)) h)))
    (λ (other : h ≢ n). Contains-append_left (filter p (range_with_len 0 n)) (cond (p n) (n ∷ []) []) h (kept_at p n h (omega arith) passes))
    (cases_eq h n)))
