-- Places round a repeat.
use Rattle.std.proofs.Common.{◌≡◌, ℕ, ◌+◌, ◌-◌, ◌%◌, ◌<◌, ◌≤◌, ap, ◌∙◌, ⊎_elim, arith}
use Rattle.std.specs.Prelude.{◌==◌}
use Rattle.std.proofs.Math.Nat.{mod-eq_of_lt, add-mod_right}
use Rattle.std.proofs.lemmas.Bool.{cases_lt}
use Rattle.std.proofs.lemmas.Bool.Decides.{nat_tests}
use Rattle.strokes.specs.Paints.{steps_round}

-- so many steps on where the repeat does not end before
pub steps_ahead : (n from x : ℕ) → from ≤ x → x < n → steps_round n from x ≡ x - from
unfolding steps_round
steps_ahead n from x ahead below =
    let whole : x + n - from ≡ x - from + n = omega arith in
    ap (λ y. y % n) whole ∙ add-mod_right (x - from) n ∙ mod-eq_of_lt {n = x - from} {m = n} (omega arith)

-- and where it ends before
pub steps_past : (n from x : ℕ) → x < from → from < n → steps_round n from x ≡ x + n - from
unfolding steps_round
steps_past n from x behind below = mod-eq_of_lt {n = x + n - from} {m = n} (omega arith)

pub steps_below : (n from x : ℕ) → from < n → x < n → steps_round n from x < n
steps_below n from x start below = ⊎_elim
    (λ (past : x < from). omega (arith, steps_past n from x past start))
    (λ (ahead : from ≤ x). omega (arith, steps_ahead n from x ahead below))
    (cases_lt x from)

-- the place so many steps on is the one to which it is so many steps
pub is_round : (n at by place x : ℕ) → at < n → by < n → x < n → (at + by < n → place ≡ at + by) → (n ≤ at + by → place ≡ at + by - n) → (x == place) ≡ (steps_round n at x == by)
is_round n at by place x start few below straight round = ⊎_elim
    (λ (past : x < at). let e = steps_past n at x past start in ⊎_elim
    (λ (h : at + by < n). let f = straight h in grind (arith, nat_tests))
    (λ (h : n ≤ at + by). let f = round h in grind (arith, nat_tests))
    (cases_lt (at + by) n))
    (λ (ahead : at ≤ x). let e = steps_ahead n at x ahead below in ⊎_elim
    (λ (h : at + by < n). let f = straight h in grind (arith, nat_tests))
    (λ (h : n ≤ at + by). let f = round h in grind (arith, nat_tests))
    (cases_lt (at + by) n))
    (cases_lt x at)

pub mod_straight : (n at by : ℕ) → at + by < n → (at + by) % n ≡ at + by
mod_straight n at by h = mod-eq_of_lt {n = at + by} {m = n} h

pub mod_round : (n at by : ℕ) → n ≤ at + by → at < n → by < n → (at + by) % n ≡ at + by - n
mod_round n at by h start few =
    let whole : at + by ≡ at + by - n + n = omega arith in
    ap (λ y. y % n) whole ∙ add-mod_right (at + by - n) n ∙ mod-eq_of_lt {n = at + by - n} {m = n} (omega arith)
