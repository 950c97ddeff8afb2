-- Places of a line that is followed round its edge.
use Rattle.std.proofs.Common.{◌≡◌, ℕ, ◌+◌, ◌-◌, ◌*◌, ◌%◌, ◌<◌, ◌≤◌, Bool, false, List, length, get_or, ◌⊎◌, inl, inr, refl, sym, ap, ◌∙◌, ⊎_elim, arith}
use Rattle.std.specs.Prelude.{ℤ, pos, negsuc, ◌+ℤ◌}
use Rattle.std.specs.Int.{int_rem_euclid}
use Rattle.std.proofs.Math.Nat.{add-mul-mod_self_left, mod-eq_of_lt}
use Rattle.std.proofs.lemmas.Int.{int_rem_euclid_is}
use Rattle.std.proofs.lemmas.Bool.{cases_lt}
use Rattle.mill_base.specs.Lines.{remainder, cell_round, cell_at}

-- places that lie whole turns apart are one position
pub turns : (n a b q r : ℕ) → a + n * q ≡ b + n * r → a % n ≡ b % n
turns n a b q r e = sym (add-mul-mod_self_left a n q) ∙ ap (λ x. x % n) e ∙ add-mul-mod_self_left b n r

pub same_cell : (line : List Bool) (a b q r : ℕ) → a + length line * q ≡ b + length line * r → cell_round line a ≡ cell_round line b
same_cell line a b q r e = ap (λ x. get_or line x false) (turns (length line) a b q r e)

pub cell_here : (line : List Bool) (x : ℕ) → x < length line → cell_round line x ≡ get_or line x false
cell_here line x h = ap (λ y. get_or line y false) (mod-eq_of_lt h)

-- how far k lies past x, round n positions
pub past_is : (n k x : ℕ) → k < n → x < n → ((k + n - x) % n + x ≡ k) ⊎ ((k + n - x) % n + x ≡ k + n)
past_is n k x hk hx = ⊎_elim
    (λ (h : k < x). let e : (k + n - x) % n ≡ k + n - x = mod-eq_of_lt (omega arith) in inr (omega arith))
    (λ (h : x ≤ k).
    let t : (k + n - x) % n ≡ (k - x) % n = turns n (k + n - x) (k - x) 0 1 (omega arith) in
    let e : (k - x) % n ≡ k - x = mod-eq_of_lt (omega arith) in
    inl (omega arith))
    (cases_lt k x)

-- and back
pub past_back : (n k x past : ℕ) → past < n → (past + x ≡ k) ⊎ (past + x ≡ k + n) → (k + n - x) % n ≡ past
past_back n k x past h (inl e) = turns n (k + n - x) past 0 1 (omega arith) ∙ mod-eq_of_lt h
past_back n k x past h (inr e) = ap (λ y. y % n) (let is : k + n - x ≡ past = omega arith in is) ∙ mod-eq_of_lt h

rem_remainder : (z : ℤ) (n : ℕ) → int_rem_euclid z (pos n) ≡ pos (remainder z n)
rem_remainder (pos x) n = refl
rem_remainder (negsuc x) n = refl

-- z and some turns of n are the natural m
pub remainder_is : (z : ℤ) (n k m : ℕ) → 0 < n → z +ℤ pos (k * n) ≡ pos m → remainder z n ≡ m % n
remainder_is z n k m some e =
    let both : pos (remainder z n) ≡ pos (m % n) = sym (rem_remainder z n) ∙ int_rem_euclid_is z (pos n) n k m some refl e in
    cc

pub cell_at_is : (line : List Bool) (z : ℤ) (k m : ℕ) → 0 < length line → z +ℤ pos (k * length line) ≡ pos m → cell_at line z ≡ cell_round line m
cell_at_is line z k m some e = ap (λ x. get_or line x false) (remainder_is z (length line) k m some e)
