-- The near places of a line as a window that is carried along.
use Rattle.std.proofs.Common.{◌≡◌, ℕ, zero, suc, ◌+◌, ◌-◌, ◌*◌, ◌/◌, ◌%◌, ◌<◌, ◌≤◌, Bool, true, false, ◌&&◌, cond, refl, sym, ap, subst, ◌∙◌, ⊎_elim, nat_lt, arith}
use Rattle.std.specs.Prelude.{nat_le}
use Rattle.std.proofs.Math.Nat.{div-add-mod, mod-le, mod-eq_of_lt}
use Rattle.std.proofs.lemmas.Bool.{cases_lt, cases_Bool, both_ways, or_left, or_right, or_cases, and_from, and_parts, le-leb, leb-true, ltb-true, lt-ltb}
use Rattle.std.proofs.lemmas.Nat.{mod_below}
use Rattle.mill_base.specs.Below.{any_below, count_below}
use Rattle.mill_base.proofs.lemmas.Belows.{any_here, any_not, any_witness, true_together, count_none, count_zero}
use Rattle.mill_base.proofs.lemmas.RoundLines.{turns}
use Rattle.tile_grid.specs.Near.{is_near}
use Rattle.tile_grid.specs.inner.Walks.{window_place}

-- a limit is at most itself times a length of at least 1
pub within_turns : (n limit : ℕ) → 0 < n → limit ≤ n * limit
within_turns n limit some = grind arith

-- every place of the window is near
pub window_is_near : (n limit x d : ℕ) → x < n → d < 2 * limit + 1 → is_near n limit x (window_place n limit x d) ≡ true
window_is_near n limit x d hx hd =
    let room : limit ≤ n * limit = within_turns n limit (omega arith) in
    let z = x + n * limit - limit + d in
    let y = z % n in
    let whole : n * (z / n) + y ≡ z = div-add-mod z n in
    let below : y < n = mod_below z n (omega arith) in
    ⊎_elim
    (λ (before : d < limit).
    let k = limit - d in
    let e : (x + n - y) + n * limit ≡ k + n * (z / n + 1) = omega arith in
    let small : (x + n - y) % n ≤ k = subst (λ (m : ℕ). m ≤ k) (sym (turns n (x + n - y) k limit (z / n + 1) e)) (mod-le k n) in
    or_right (nat_le ((y + n - x) % n) limit) (nat_le ((x + n - y) % n) limit) (le-leb ((x + n - y) % n) limit (omega arith)))
    (λ (past : limit ≤ d).
    let k = d - limit in
    let e : (y + n - x) + n * (z / n) ≡ k + n * (limit + 1) = omega arith in
    let small : (y + n - x) % n ≤ k = subst (λ (m : ℕ). m ≤ k) (sym (turns n (y + n - x) k (z / n) (limit + 1) e)) (mod-le k n) in
    or_left (nat_le ((y + n - x) % n) limit) (nat_le ((x + n - y) % n) limit) (le-leb ((y + n - x) % n) limit (omega arith)))
    (cases_lt d limit)

-- every near place is of the window
pub near_in_window : (n limit x y : ℕ) → x < n → y < n → is_near n limit x y ≡ true → (d : ℕ) × (d < 2 * limit + 1) × (window_place n limit x d ≡ y)
near_in_window n limit x y hx hy near =
    let room : limit ≤ n * limit = within_turns n limit (omega arith) in
    ⊎_elim
    (λ (past : nat_le ((y + n - x) % n) limit ≡ true).
    let k = (y + n - x) % n in
    let q = (y + n - x) / n in
    let small : k ≤ limit = leb-true k limit past in
    let whole : n * q + k ≡ y + n - x = div-add-mod (y + n - x) n in
    let e : (x + n * limit - limit + (limit + k)) + n * q ≡ y + n * (limit + 1) = omega arith in
    (limit + k, omega arith, turns n (x + n * limit - limit + (limit + k)) y q (limit + 1) e ∙ mod-eq_of_lt hy))
    (λ (before : nat_le ((x + n - y) % n) limit ≡ true).
    let k = (x + n - y) % n in
    let q = (x + n - y) / n in
    let small : k ≤ limit = leb-true k limit before in
    let whole : n * q + k ≡ x + n - y = div-add-mod (x + n - y) n in
    let e : (x + n * limit - limit + (limit - k)) + n * 1 ≡ y + n * (q + limit) = omega arith in
    (limit - k, omega arith, turns n (x + n * limit - limit + (limit - k)) y 1 (q + limit) e ∙ mod-eq_of_lt hy))
    (or_cases (nat_le ((y + n - x) % n) limit) (nat_le ((x + n - y) % n) limit) near)

-- the window one place on
pub window_steps : (n limit x d : ℕ) → 0 < n → window_place n limit (x + 1) d ≡ window_place n limit x (d + 1)
window_steps n limit x d some =
    let room : limit ≤ n * limit = within_turns n limit some in
    let same : x + 1 + n * limit - limit + d ≡ x + n * limit - limit + (d + 1) = omega arith in
    ap (λ m. m % n) same

-- the count in a window that moves on by one: the first place leaves, and the place behind the last comes in
pub count_slides : (p : ℕ → Bool) (n : ℕ) → count_below (λ d. p (suc d)) n + cond (p 0) 1 0 ≡ count_below p n + cond (p n) 1 0
count_slides p zero = refl
count_slides p (suc n) = let so_far = count_slides p n in omega (arith, so_far)

-- where a number passes the count is above 0
pub count_here : (p : ℕ → Bool) (n i : ℕ) → i < n → p i ≡ true → 0 < count_below p n
count_here p n i h e = ⊎_elim
    (λ (some : 0 < count_below p n). some)
    (λ (none : count_below p n ≤ 0). absurd (both_ways (p i) (count_zero p n i (omega arith) h) e))
    (cases_lt 0 (count_below p n))

-- a count above 0 says that some number passes
pub counted : (p : ℕ → Bool) (n : ℕ) → nat_lt 0 (count_below p n) ≡ any_below p n
counted p n = true_together (nat_lt 0 (count_below p n)) (any_below p n)
    (λ some. ⊎_elim
    (λ (on : any_below p n ≡ true). on)
    (λ (off : any_below p n ≡ false). absurd (let none = count_none p n (λ k h. any_not p n k off h) in let many = ltb-true 0 (count_below p n) some in omega arith))
    (cases_Bool (any_below p n)))
    (λ some. let w = any_witness p n some in lt-ltb 0 (count_below p n) (count_here p n w.0 w.1 w.2))

-- some near place passes exactly where some place of the window does
pub any_in_window : (p : ℕ → Bool) (n limit x : ℕ) → x < n
    → any_below (λ y. p y && is_near n limit x y) n ≡ any_below (λ d. p (window_place n limit x d)) (2 * limit + 1)
any_in_window p n limit x hx = true_together (any_below (λ y. p y && is_near n limit x y) n) (any_below (λ d. p (window_place n limit x d)) (2 * limit + 1))
    (λ some.
    let y = any_witness (λ y. p y && is_near n limit x y) n some in
    let both = and_parts (p y.0) (is_near n limit x y.0) y.2 in
    let d = near_in_window n limit x y.0 hx y.1 both.1 in
    any_here (λ d. p (window_place n limit x d)) (2 * limit + 1) d.0 d.1 (ap p d.2 ∙ both.0))
    (λ some.
    let d = any_witness (λ d. p (window_place n limit x d)) (2 * limit + 1) some in
    let y = window_place n limit x d.0 in
    any_here (λ y. p y && is_near n limit x y) n y (mod_below (x + n * limit - limit + d.0) n (omega arith))
    (and_from (p y) (is_near n limit x y) d.2 (window_is_near n limit x d.0 hx d.1)))
