-- The least number below a bound that passes a test.
use Rattle.std.proofs.Common.{◌≡◌, ◌≢◌, ℕ, zero, suc, ◌<◌, Bool, true, false, cond, refl, sym, ap, ◌∙◌, ⊎_elim, arith}
use Rattle.std.proofs.lemmas.Bool.{cases_eq, cond-true, cond-false}
use Rattle.mill_base.specs.Below.{any_below}
use Rattle.mill_base.proofs.lemmas.Belows.{any_here, any_none}
use Rattle.cloth_floats.specs.Floats.{first_below}

-- the least number that passes is where the search stops
pub first_is : (p : ℕ → Bool) (n i : ℕ) → i < n → p i ≡ true → ((j : ℕ) → j < i → p j ≡ false) → first_below p n ≡ i
first_is p zero i h e before = absurd (omega arith)
first_is p (suc n) i h e before = ⊎_elim
    (λ (here : i ≡ n).
    let at : p n ≡ true = sym (ap p here) ∙ e in
    let none : any_below p n ≡ false = any_none p n (λ j below. before j (omega arith)) in
    cond-false (any_below p n) (first_below p n) (cond (p n) n (suc n)) none ∙ cond-true (p n) n (suc n) at ∙ sym here)
    (λ (off : i ≢ n).
    let some : any_below p n ≡ true = any_here p n i (omega arith) e in
    cond-true (any_below p n) (first_below p n) (cond (p n) n (suc n)) some ∙ first_is p n i (omega arith) e before)
    (cases_eq i n)

pub first_none : (p : ℕ → Bool) (n : ℕ) → ((j : ℕ) → j < n → p j ≡ false) → first_below p n ≡ n
first_none p zero none = refl
first_none p (suc n) none =
    cond-false (any_below p n) (first_below p n) (cond (p n) n (suc n)) (any_none p n (λ j below. none j (omega arith)))
    ∙ cond-false (p n) n (suc n) (none n (omega arith))
