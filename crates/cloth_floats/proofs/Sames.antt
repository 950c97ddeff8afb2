-- Cells that are equal, as a test.
use Rattle.std.proofs.Common.{◌≡◌, ℕ, zero, suc, ◌+◌, ◌≤◌, Bool, true, false, not, refl, sym, ap, subst, ◌∙◌, arith}
use Rattle.mill_base.specs.Below.{all_below}
use Rattle.mill_base.specs.Lines.{same}
use Rattle.mill_base.proofs.lemmas.Belows.{all_each, all_at, true_together}

pub same-refl : (a b : Bool) → a ≡ b → same a b ≡ true
same-refl true b e = sym e
same-refl false b e = ap not (sym e)

pub same_is : (a b : Bool) → same a b ≡ true → a ≡ b
same_is true true h = refl
same_is true false h = sym h
same_is false true h = h
same_is false false h = refl

-- cells that differ, as a test
pub differ : (a b x y : Bool) → a ≡ x → b ≡ y → same a b ≡ false → same x y ≡ false
differ a b x y e f h = subst (λ v. same v y ≡ false) e (subst (λ v. same a v ≡ false) f h)

-- cells that equal one of them, each, are cells that equal their next, each
pub chain_from : (f : ℕ → Bool) (m i : ℕ) → i ≤ m → all_below (λ j. same (f j) (f (j + 1))) m ≡ all_below (λ j. same (f i) (f j)) (m + 1)
chain_from f m i h = true_together (all_below (λ j. same (f j) (f (j + 1))) m) (all_below (λ j. same (f i) (f j)) (m + 1))
    (λ nexts. all_each (λ j. same (f i) (f j)) (m + 1) (λ j below. same-refl (f i) (f j) (from_first nexts i h ∙ sym (from_first nexts j (omega arith)))))
    (λ all. all_each (λ j. same (f j) (f (j + 1))) m (λ j below. same-refl (f j) (f (j + 1))
    (sym (same_is (f i) (f j) (all_at (λ j. same (f i) (f j)) (m + 1) j all (omega arith)))
    ∙ same_is (f i) (f (j + 1)) (all_at (λ j. same (f i) (f j)) (m + 1) (j + 1) all (omega arith))))) where
      from_first : all_below (λ j. same (f j) (f (j + 1))) m ≡ true → (j : ℕ) → j ≤ m → f j ≡ f 0
      from_first nexts zero below = refl
      from_first nexts (suc j) below =
          ap f (let e : suc j ≡ j + 1 = omega arith in e)
          ∙ sym (same_is (f j) (f (j + 1)) (all_at (λ j. same (f j) (f (j + 1))) m j nexts (omega arith))) ∙ from_first nexts j (omega arith)

-- so it does not matter which of them is compared with the others
pub from_any : (f : ℕ → Bool) (m i : ℕ) → i ≤ m → all_below (λ j. same (f i) (f j)) (m + 1) ≡ all_below (λ j. same (f 0) (f j)) (m + 1)
from_any f m i h = sym (chain_from f m i h) ∙ chain_from f m 0 (omega arith)
