-- Near places as places of near whole numbers.
use Rattle.std.proofs.Common.{◌≡◌, ℕ, ◌+◌, ◌-◌, ◌*◌, ◌/◌, ◌%◌, ◌<◌, ◌≤◌, true, sym, subst, ◌∙◌, ⊎_elim, arith}
use Rattle.std.specs.Prelude.{ℤ, pos, negsuc, ◌+ℤ◌, nat_le}
use Rattle.std.proofs.Math.Nat.{div-add-mod, mod-le, mod-eq_of_lt}
use Rattle.std.proofs.lemmas.Bool.{cases_lt, or_cases, or_left, or_right, le-leb, leb-true}
use Rattle.std.proofs.lemmas.Int.{ints}
use Rattle.std.proofs.lemmas.Nat.{mod_below}
use Rattle.mill_base.specs.Lines.{remainder}
use Rattle.mill_base.proofs.lemmas.RoundLines.{turns, remainder_is}
use Rattle.tile_grid.specs.Near.{is_near, AreWithin}
use Rattle.tile_grid.proofs.Windows.{within_turns}

-- two whole numbers within the limit that are x and y but for whole turns
abbrev pub AreTurned : ℕ → ℕ → ℕ → ℕ → Type 0
AreTurned n limit x y = (v : ℤ) × (w : ℤ) × AreWithin limit v w × (remainder v n ≡ x) × (remainder w n ≡ y)

-- a place that lies k places past another
place_past : (n x y : ℕ) → x < n → y < n → (x + (y + n - x) % n) % n ≡ y
place_past n x y hx hy =
    let whole : n * ((y + n - x) / n) + (y + n - x) % n ≡ y + n - x = div-add-mod (y + n - x) n in
    turns n (x + (y + n - x) % n) y ((y + n - x) / n) 1 (omega arith) ∙ mod-eq_of_lt hy

pub turned_of_near : (n limit x y : ℕ) → x < n → y < n → is_near n limit x y ≡ true → AreTurned n limit x y
turned_of_near n limit x y hx hy near = ⊎_elim
    (λ (past : nat_le ((y + n - x) % n) limit ≡ true).
    let few : (y + n - x) % n ≤ limit = leb-true ((y + n - x) % n) limit past in
    (pos x, pos (x + (y + n - x) % n), (omega (arith, ints), omega (arith, ints)), mod-eq_of_lt hx, place_past n x y hx hy))
    (λ (before : nat_le ((x + n - y) % n) limit ≡ true).
    let few : (x + n - y) % n ≤ limit = leb-true ((x + n - y) % n) limit before in
    (pos (y + (x + n - y) % n), pos y, (omega (arith, ints), omega (arith, ints)), place_past n y x hy hx, mod-eq_of_lt hy))
    (or_cases (nat_le ((y + n - x) % n) limit) (nat_le ((x + n - y) % n) limit) near)

-- ---- back: some turns more make whole numbers natural

abbrev below_zero : ℤ → ℕ
below_zero (pos a) = 0
below_zero (negsuc a) = a + 1

record Raised (z : ℤ) (n k : ℕ) : Type 0 where
  m : ℕ
  is : z +ℤ pos (k * n) ≡ pos m

lifted : (a b : ℕ) → a + 1 ≤ b → negsuc a +ℤ pos b ≡ pos (b - (a + 1))
lifted a b h = omega (arith, ints)

raised : (z : ℤ) (n k : ℕ) → 0 < n → below_zero z ≤ k → Raised z n k
raised (pos a) n k some h = record { m = a + k * n; is = omega (arith, ints) }
raised (negsuc a) n k some h = record { m = k * n - (a + 1); is = lifted a (k * n) (much n k some h) } where
  turned : (a b : ℕ) → a * b ≡ b * a
  turned a b = grind arith

  much : (n k : ℕ) → 0 < n → a + 1 ≤ k → a + 1 ≤ k * n
  much n k some h = let all = within_turns n k some in let e = turned n k in omega arith

-- a natural number d past another has a place at most d past the other's
within_past : (n limit v w : ℕ) → 0 < n → v ≤ w → w ≤ v + limit → (w % n + n - v % n) % n ≤ limit
within_past n limit v w some order close =
    let one : n * (v / n) + v % n ≡ v = div-add-mod v n in
    let other : n * (w / n) + w % n ≡ w = div-add-mod w n in
    let low : v % n < n = mod_below v n some in
    let same : (w % n + n - v % n) % n ≡ (w - v) % n = turns n (w % n + n - v % n) (w - v) (w / n) (v / n + 1) (omega arith) in
    subst (λ (m : ℕ). m ≤ limit) (sym same) (let few = mod-le (w - v) n in omega arith)

near_of_naturals : (n limit v w : ℕ) → 0 < n → v ≤ w + limit → w ≤ v + limit → is_near n limit (v % n) (w % n) ≡ true
near_of_naturals n limit v w some one other = ⊎_elim
    (λ (below : w < v). or_right (nat_le ((w % n + n - v % n) % n) limit) (nat_le ((v % n + n - w % n) % n) limit)
    (le-leb ((v % n + n - w % n) % n) limit (within_past n limit w v some (omega arith) one)))
    (λ (past : v ≤ w). or_left (nat_le ((w % n + n - v % n) % n) limit) (nat_le ((v % n + n - w % n) % n) limit)
    (le-leb ((w % n + n - v % n) % n) limit (within_past n limit v w some past other)))
    (cases_lt w v)

pub near_of_turned : (n limit x y : ℕ) → 0 < n → AreTurned n limit x y → is_near n limit x y ≡ true
near_of_turned n limit x y some t =
    let k = below_zero t.0 + below_zero t.1 in
    let v = raised t.0 n k some (omega arith) in
    let w = raised t.1 n k some (omega arith) in
    let v_is = v.is in
    let w_is = w.is in
    let one : v.m ≤ w.m + limit = let h = t.2.0 in omega (arith, ints) in
    let other : w.m ≤ v.m + limit = let h = t.2.1 in omega (arith, ints) in
    let x_is : v.m % n ≡ x = sym (remainder_is t.0 n k v.m some v_is) ∙ t.3 in
    let y_is : w.m % n ≡ y = sym (remainder_is t.1 n k w.m some w_is) ∙ t.4 in
    subst (λ (a : ℕ). is_near n limit a y ≡ true) x_is (subst (λ (b : ℕ). is_near n limit (v.m % n) b ≡ true) y_is (near_of_naturals n limit v.m w.m some one other))
