-- Tests of all numbers below a bound.
use Rattle.std.proofs.Common.{◌≡◌, ◌≢◌, ◌+◌, ◌<◌, ◌≤◌, ◌&&◌, ◌||◌, ◌==◌, ℕ, zero, suc, Bool, true, false, not, cond, ◌⊎◌, inl, inr, refl, sym, ap, ◌∙◌, ⊎_elim, eqb-true, nat_lt, arith}
use Rattle.std.proofs.lemmas.Bool.{cases_Bool, cases_eq, both_ways, false_from_ne_true, ltb-true, and_from, and_left, and_right, and_cases, or_from, or_left, or_right, or_cases, true_from_ne_false}
use Rattle.mill_base.specs.Below.{any_below, all_below, count_below}

-- ---- two truth values

-- two truth values that are true together are one
pub true_together : (a b : Bool) → (a ≡ true → b ≡ true) → (b ≡ true → a ≡ true) → a ≡ b
true_together a b there back = ⊎_elim
    (λ (on : a ≡ true). on ∙ sym (there on))
    (λ (off : a ≡ false). off ∙ sym (false_from_ne_true b (λ e. both_ways a off (back e))))
    (cases_Bool a)

-- ---- some number passes

-- a number that passes
pub any_here : (p : ℕ → Bool) (n i : ℕ) → i < n → p i ≡ true → any_below p n ≡ true
any_here p zero i h e = absurd (omega arith)
any_here p (suc n) i h e = ⊎_elim
    (λ (here : i ≡ n). or_right (any_below p n) (p n) (sym (ap p here) ∙ e))
    (λ (before : i ≢ n). or_left (any_below p n) (p n) (any_here p n i (omega arith) e)) (cases_eq i n)

-- where the test is true, a number that passes
pub any_witness : (p : ℕ → Bool) (n : ℕ) → any_below p n ≡ true → (i : ℕ) × (i < n) × (p i ≡ true)
any_witness p zero some = absurd (both_ways false refl some)
any_witness p (suc n) some = ⊎_elim
    (λ (before : any_below p n ≡ true). let w = any_witness p n before in (w.0, (let h = w.1 in omega arith), w.2))
    (λ (here : p n ≡ true). (n, (omega arith), here))
    (or_cases (any_below p n) (p n) some)

pub any_none : (p : ℕ → Bool) (n : ℕ) → ((i : ℕ) → i < n → p i ≡ false) → any_below p n ≡ false
any_none p zero h = refl
any_none p (suc n) h = or_from (any_below p n) (p n) (any_none p n (λ i below. h i (omega arith))) (h n (omega arith))

pub any_not : (p : ℕ → Bool) (n i : ℕ) → any_below p n ≡ false → i < n → p i ≡ false
any_not p n i none h = false_from_ne_true (p i) (λ e. both_ways (any_below p n) none (any_here p n i h e))

-- the test of one number alone decides
pub any_only : (p : ℕ → Bool) (n c : ℕ) → c < n → ((k : ℕ) → k < n → k ≢ c → p k ≡ false) → any_below p n ≡ p c
any_only p n c low others = true_together (any_below p n) (p c)
    (λ some. let w = any_witness p n some in ⊎_elim
    (λ (here : w.0 ≡ c). sym (ap p here) ∙ w.2)
    (λ (apart : w.0 ≢ c). absurd (both_ways (p w.0) (others w.0 w.1 apart) w.2))
    (cases_eq w.0 c))
    (any_here p n c low)

pub any_alike : (p q : ℕ → Bool) (n : ℕ) → ((i : ℕ) → i < n → p i ≡ q i) → any_below p n ≡ any_below q n
any_alike p q zero h = refl
any_alike p q (suc n) h =
    ap (λ b. b || p n) (any_alike p q n (λ i below. h i (omega arith))) ∙ ap (λ b. any_below q n || b) (h n (omega arith))

-- the numbers below a bound, and so many from there on
pub any_further : (p : ℕ → Bool) (a n : ℕ) → any_below p (a + n) ≡ (any_below p a || any_below (λ i. p (a + i)) n)
any_further p a zero = let e : a + 0 ≡ a = omega arith in rw e (sym (or_false (any_below p a))) where
  or_false : (b : Bool) → (b || false) ≡ b
  or_false true = refl
  or_false false = refl
any_further p a (suc n) =
    let e : a + suc n ≡ suc (a + n) = omega arith in
    rw e (ap (λ b. b || p (a + n)) (any_further p a n) ∙ or_assoc (any_below p a) (any_below (λ i. p (a + i)) n) (p (a + n))) where
      or_assoc : (a b c : Bool) → ((a || b) || c) ≡ (a || (b || c))
      or_assoc true b c = refl
      or_assoc false b c = refl

-- ---- each number passes

pub all_each : (p : ℕ → Bool) (n : ℕ) → ((i : ℕ) → i < n → p i ≡ true) → all_below p n ≡ true
all_each p zero h = refl
all_each p (suc n) h = and_from (all_below p n) (p n) (all_each p n (λ i below. h i (omega arith))) (h n (omega arith))

pub all_not : (p : ℕ → Bool) (n i : ℕ) → i < n → p i ≡ false → all_below p n ≡ false
all_not p zero i h e = absurd (omega arith)
all_not p (suc n) i h e = ⊎_elim
    (λ (here : i ≡ n). and_right (all_below p n) (p n) (sym (ap p here) ∙ e))
    (λ (before : i ≢ n). and_left (all_below p n) (p n) (all_not p n i (omega arith) e)) (cases_eq i n)

pub all_at : (p : ℕ → Bool) (n i : ℕ) → all_below p n ≡ true → i < n → p i ≡ true
all_at p n i all h = true_from_ne_false (p i) (λ e. both_ways (all_below p n) (all_not p n i h e) all)

-- where the test is false, a number that does not pass
pub all_witness : (p : ℕ → Bool) (n : ℕ) → all_below p n ≡ false → (i : ℕ) × (i < n) × (p i ≡ false)
all_witness p zero none = absurd (both_ways true none refl)
all_witness p (suc n) none = ⊎_elim
    (λ (before : all_below p n ≡ false). let w = all_witness p n before in (w.0, (let h = w.1 in omega arith), w.2))
    (λ (here : p n ≡ false). (n, (omega arith), here))
    (and_cases (all_below p n) (p n) none)

pub all_alike : (p q : ℕ → Bool) (n : ℕ) → ((i : ℕ) → i < n → p i ≡ q i) → all_below p n ≡ all_below q n
all_alike p q zero h = refl
all_alike p q (suc n) h =
    ap (λ b. b && p n) (all_alike p q n (λ i below. h i (omega arith))) ∙ ap (λ b. all_below q n && b) (h n (omega arith))

-- not each passes where some fails
pub not_all : (p : ℕ → Bool) (n : ℕ) → not (all_below p n) ≡ any_below (λ i. not (p i)) n
not_all p zero = refl
not_all p (suc n) = flipped (all_below p n) (p n) ∙ ap (λ b. b || not (p n)) (not_all p n) where
  flipped : (a b : Bool) → not (a && b) ≡ (not a || not b)
  flipped true b = refl
  flipped false b = refl

-- ---- how many numbers pass

-- tests that agree count the same
pub count_alike : (p q : ℕ → Bool) (n : ℕ) → ((i : ℕ) → i < n → p i ≡ q i) → count_below p n ≡ count_below q n
count_alike p q zero same = refl
count_alike p q (suc n) same =
    ap (λ m. m + cond (p n) 1 0) (count_alike p q n (λ i below. same i (omega arith))) ∙ ap (λ b. count_below q n + cond b 1 0) (same n (omega arith))

-- one more number
pub count_next : (p : ℕ → Bool) (n m : ℕ) → m ≡ n + 1 → count_below p m ≡ count_below p n + cond (p n) 1 0
count_next p n m is = let e : suc n ≡ m = omega (arith, is) in ap (count_below p) (sym e)

pub count_few : (p : ℕ → Bool) (n : ℕ) → count_below p n ≤ n
count_few p zero = omega arith
count_few p (suc n) = omega (arith, count_few p n, at_most_one (p n)) where
  at_most_one : (b : Bool) → cond {A = ℕ} b 1 0 ≤ 1
  at_most_one true = omega arith
  at_most_one false = omega arith

-- where none passes from n on, as many pass below m
pub count_rest : (p : ℕ → Bool) (n m : ℕ) → n ≤ m → ((k : ℕ) → n ≤ k → k < m → p k ≡ false) → count_below p m ≡ count_below p n
count_rest p n zero low none = let e : n ≡ 0 = omega arith in ap (count_below p) (sym e)
count_rest p n (suc m) low none = ⊎_elim
    (λ (same : n ≡ suc m). ap (count_below p) (sym same))
    (λ (more : n ≢ suc m).
    let last : cond {A = ℕ} (p m) 1 0 ≡ 0 = ap (λ b. cond {A = ℕ} b 1 0) (none m (omega arith) (omega arith)) in
    let before = count_rest p n m (omega arith) (λ k from below. none k from (omega arith)) in
    omega (arith, last, before))
    (cases_eq n (suc m))

pub count_none : (p : ℕ → Bool) (n : ℕ) → ((k : ℕ) → k < n → p k ≡ false) → count_below p n ≡ 0
count_none p n none = count_rest p 0 n (omega arith) (λ k from below. none k below)

-- where the count is 0 none passes
pub count_zero : (p : ℕ → Bool) (n i : ℕ) → count_below p n ≡ 0 → i < n → p i ≡ false
count_zero p zero i zero_ h = absurd (omega arith)
count_zero p (suc n) i zero_ h = ⊎_elim
    (λ (here : i ≡ n). ap p here ∙ no_weight (p n) (omega (arith, zero_)))
    (λ (before : i ≢ n). count_zero p n i (omega (arith, zero_)) (omega arith))
    (cases_eq i n)
  where
    no_weight : (b : Bool) → cond {A = ℕ} b 1 0 ≡ 0 → b ≡ false
    no_weight true e = absurd (omega (arith, e))
    no_weight false e = refl

-- ---- the least number that passes

pub record IsFirst (p : ℕ → Bool) (n i : ℕ) : Type 0 where
  pub within : i < n
  pub passes : p i ≡ true
  pub before : (j : ℕ) → j < i → p j ≡ false

pub first_cases : (p : ℕ → Bool) (n : ℕ) → ((i : ℕ) × IsFirst p n i) ⊎ ((j : ℕ) → j < n → p j ≡ false)
first_cases p zero = inr (λ j h. absurd (omega arith))
first_cases p (suc n) = further p n (first_cases p n) where
  further : (p : ℕ → Bool) (n : ℕ) → ((i : ℕ) × IsFirst p n i) ⊎ ((j : ℕ) → j < n → p j ≡ false) → ((i : ℕ) × IsFirst p (suc n) i) ⊎ ((j : ℕ) → j < suc n → p j ≡ false)
  further p n (inl found) = inl (found.0, record { within = let h = found.1.within in omega arith; passes = found.1.passes; before = found.1.before })
  further p n (inr none) = ⊎_elim
      (λ (e : p n ≡ true). inl (n, record { within = omega arith; passes = e; before = none }))
      (λ (e : p n ≡ false). inr (λ j h. ⊎_elim (λ (here : j ≡ n). ap p here ∙ e) (λ (off : j ≢ n). none j (omega arith)) (cases_eq j n)))
      (cases_Bool (p n))

-- ---- tables that are computed

-- two functions of numbers that are computed alike
pub same_below : (f g : ℕ → ℕ) (n : ℕ) → all_below (λ i. f i == g i) n ≡ true → (i : ℕ) → i < n → f i ≡ g i
same_below f g n all i h = eqb-true (f i) (g i) (all_at (λ i. f i == g i) n i all h)

-- values that are computed to be below a bound
pub under_below : (f : ℕ → ℕ) (bound n : ℕ) → all_below (λ i. nat_lt (f i) bound) n ≡ true → (i : ℕ) → i < n → f i < bound
under_below f bound n all i h = ltb-true (f i) bound (all_at (λ i. nat_lt (f i) bound) n i all h)
