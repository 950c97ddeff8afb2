-- The first of many answers.
use Rattle.std.proofs.Common.{◌≡◌, ◌≢◌, ⊎_elim, ℕ, zero, suc, ◌+◌, ◌<◌, ◌≤◌, Bool, true, false, cond, ◌||◌, Option, Some, None, sym, ap, subst, refl, ◌∙◌, arith}
use Rattle.std.proofs.lemmas.Bool.{cases_eq}
use Rattle.std.specs.Option.{option_or}
use Rattle.card_image.specs.Firsts.{first_of, passing}

pub or_true : (b : Bool) → (b || true) ≡ true
or_true true = refl
or_true false = refl

pub or_none : {A : Type 0} (a : Option A) → option_or a None ≡ a
or_none None = refl
or_none (Some x) = refl

pub or_some : {A : Type 0} (a b : Option A) (x : A) → a ≡ Some x → option_or a b ≡ Some x
or_some a b x is = ap (λ o. option_or o b) is

pub or_next : {A : Type 0} (a b : Option A) → a ≡ None → option_or a b ≡ b
or_next a b is = ap (λ o. option_or o b) is

-- where nothing is told, neither part tells anything
pub both_none : {A : Type 0} (a b : Option A) → option_or a b ≡ None → (a ≡ None) × (b ≡ None)
both_none None b is = (refl, is)
both_none (Some x) b is = absurd (cc)

-- the first answer stays, however many follow
pub first_more : {A : Type 0} (f : ℕ → Option A) (n m : ℕ) (x : A) → first_of f n ≡ Some x → n ≤ m → first_of f m ≡ Some x
first_more f n zero x is low = let e : n ≡ 0 = omega arith in subst (λ k. first_of f k ≡ Some x) e is
first_more f n (suc m) x is low = ⊎_elim
    (λ (last : n ≡ suc m). subst (λ k. first_of f k ≡ Some x) last is)
    (λ (other : n ≢ suc m). or_some (first_of f m) (f m) x (first_more f n m x is (omega arith)))
    (cases_eq n (suc m))

-- the first answer is at n
pub first_here : {A : Type 0} (f : ℕ → Option A) (n m : ℕ) (x : A) → first_of f n ≡ None → f n ≡ Some x → n < m → first_of f m ≡ Some x
first_here f n m x before here low = first_more f (suc n) m x (or_next (first_of f n) (f n) before ∙ here) (omega arith)

pub first_step : {A : Type 0} (f : ℕ → Option A) (n : ℕ) → first_of f n ≡ None → f n ≡ None → first_of f (n + 1) ≡ None
first_step f n before here =
    let e : suc n ≡ n + 1 = omega arith in
    subst (λ k. first_of f k ≡ None) e (or_next (first_of f n) (f n) before ∙ here)

-- from n on nothing is told
pub first_rest : {A : Type 0} (f : ℕ → Option A) (n m : ℕ) → n ≤ m → ((k : ℕ) → n ≤ k → k < m → f k ≡ None) → first_of f m ≡ first_of f n
first_rest f n zero low none = let e : n ≡ 0 = omega arith in ap (first_of f) (sym e)
first_rest f n (suc m) low none = ⊎_elim
    (λ (last : n ≡ suc m). ap (first_of f) (sym last))
    (λ (other : n ≢ suc m).
    ap (option_or (first_of f m)) (none m (omega arith) (omega arith)) ∙ or_none (first_of f m)
    ∙ first_rest f n m (omega arith) (λ k from below. none k from (omega arith)))
    (cases_eq n (suc m))

-- where the first n tell nothing, fewer tell nothing
pub first_fewer : {A : Type 0} (f : ℕ → Option A) (n m : ℕ) → first_of f m ≡ None → n ≤ m → first_of f n ≡ None
first_fewer f n zero is low = let e : 0 ≡ n = omega arith in subst (λ k. first_of f k ≡ None) e is
first_fewer f n (suc m) is low = ⊎_elim
    (λ (last : n ≡ suc m). ap (first_of f) last ∙ is)
    (λ (other : n ≢ suc m). first_fewer f n m (both_none (first_of f m) (f m) is).0 (omega arith))
    (cases_eq n (suc m))

-- each of the first n tells nothing
pub each_none : {A : Type 0} (f : ℕ → Option A) (n k : ℕ) → first_of f n ≡ None → k < n → f k ≡ None
each_none f n k is low = (both_none (first_of f k) (f k) (first_fewer f (suc k) n is (omega arith))).1

pub passing_yes : (p : ℕ → Bool) (k : ℕ) → p k ≡ true → passing p k ≡ Some k
passing_yes p k is = ap (λ b. cond b (Some k) None) is

pub passing_no : (p : ℕ → Bool) (k : ℕ) → p k ≡ false → passing p k ≡ None
passing_no p k is = ap (λ b. cond b (Some k) None) is
