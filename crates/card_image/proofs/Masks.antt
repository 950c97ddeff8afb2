-- The hooks of the columns as a card of their holes.
use Rattle.std.proofs.Common.{All, zero, suc, not, ◌&&◌, min, bit_and, subst, ◌≡◌, ◌≢◌, ⊎_elim, ℕ, ◌+◌, ◌-◌, ◌*◌, ◌/◌, ◌%◌, ◌^◌, ◌<◌, ◌≤◌, ◌==◌, Bool, true, false, ◌||◌, List, length, set, get_or, bit_or, sym, ap, refl, ◌∙◌, zero-add, get_or-set_same, get_or-set_other, w8, arith}
use Rattle.std.proofs.lemmas.List.{get_or_past}
use Rattle.mill_base.specs.Below.{any_below}
use Rattle.mill_base.proofs.lemmas.Belows.{any_none}
use Rattle.std.proofs.lemmas.Bool.{cases_eq, cases_lt, eq-eqb, ne_eqb}
use Rattle.std.proofs.lemmas.Nat.Bits.{bit_at-lt, bit_at-zero, bit_at_and, bit_at_not, bit_at_set_same, bit_at_set_other}
use Rattle.std.specs.Int.{bit_at, bit_not}
use Rattle.card_image.specs.Places.{hole_bytes, hole_at}
use Rattle.card_image.specs.Sets.{hangs}
use Rattle.card_image.proofs.Firsts.{or_true}

pub or_false : (b : Bool) → (b || false) ≡ b
or_false true = refl
or_false false = refl

pub hole_here : (bytes : List ℕ) (h : ℕ) → hole_at bytes 0 h ≡ (bit_at (get_or bytes (h / 8) 0) (7 - h % 8) == 1)
hole_here bytes h = ap (λ (i : ℕ). bit_at (get_or bytes i 0) (7 - h % 8) == 1) (zero-add (h / 8))

-- the hook of one column more is marked
pub mask_more : (mask columns : List ℕ) (hooks k hook : ℕ) → get_or columns k 0 ≡ hook → hook < hooks → length mask ≡ hole_bytes hooks
    → ((h : ℕ) → h < 8 * hole_bytes hooks → hole_at mask 0 h ≡ any_below (λ c. get_or columns c 0 == h) k)
    → (h : ℕ) → h < 8 * hole_bytes hooks → hole_at (set mask (hook / 8) (bit_or (get_or mask (hook / 8) 0) (1 * 2 ^ (7 - hook % 8) % 256))) 0 h ≡ any_below (λ c. get_or columns c 0 == h) (suc k)
mask_more mask columns hooks k hook is below long before h within =
    let there : hook / 8 < length mask = omega (arith, below, long) in
    let byte = get_or mask (hook / 8) 0 in
    let new = bit_or byte (1 * 2 ^ (7 - hook % 8) % 256) in
    let some : ℕ → Bool = λ i. any_below (λ c. get_or columns c 0 == i) k in
    hole_here (set mask (hook / 8) new) h ∙ ⊎_elim
    (λ (here : h ≡ hook).
    ap (λ (i : ℕ). bit_at (get_or (set mask (hook / 8) new) (i / 8) 0) (7 - i % 8) == 1) here
    ∙ ap (λ (b : ℕ). bit_at b (7 - hook % 8) == 1) (get_or-set_same mask (hook / 8) new 0 there)
    ∙ ap (λ (b : ℕ). b == 1) (bit_at_set_same w8 byte (7 - hook % 8) (omega arith))
    ∙ sym (ap (λ b. some h || b) (eq-eqb (get_or columns k 0) h (is ∙ sym here)) ∙ or_true (some h)))
    (λ (other : h ≢ hook).
    ⊎_elim
    (λ (same : h / 8 ≡ hook / 8).
    let apart : 7 - h % 8 ≢ 7 - hook % 8 = omega (arith, other, same) in
    ap (λ (b : ℕ). bit_at b (7 - h % 8) == 1) (ap (λ (i : ℕ). get_or (set mask (hook / 8) new) i 0) same ∙ get_or-set_same mask (hook / 8) new 0 there)
    ∙ ap (λ (b : ℕ). b == 1) (bit_at_set_other w8 byte (7 - hook % 8) (omega arith) (7 - h % 8) apart)
    ∙ ap (λ (i : ℕ). bit_at (get_or mask i 0) (7 - h % 8) == 1) (sym same))
    (λ (away : h / 8 ≢ hook / 8). ap (λ (b : ℕ). bit_at b (7 - h % 8) == 1) (get_or-set_other mask (hook / 8) (h / 8) new 0 away))
    (cases_eq (h / 8) (hook / 8))
    ∙ sym (hole_here mask h) ∙ before h within
    ∙ sym (ap (λ b. some h || b) (ne_eqb (get_or columns k 0) h (λ e. other (sym e ∙ is))) ∙ or_false (some h)))
    (cases_eq h hook)

-- no column hangs on a hook past the last
pub hangs_not : (hooks : ℕ) (columns : List ℕ) → All (λ h. h < hooks) columns → (h : ℕ) → hooks ≤ h → hangs columns h ≡ false
hangs_not hooks columns all h past =
    any_none (λ c. get_or columns c 0 == h) (length columns) (λ c low. ne_eqb (get_or columns c 0) h (λ e. let below = all c 0 low in omega (arith, below, past, e)))

-- bytes that are all 0 have no hole
pub none_marked : (bytes : List ℕ) → ((j : ℕ) → get_or bytes j 0 ≡ 0) → (h : ℕ) → hole_at bytes 0 h ≡ false
none_marked bytes clear h =
    hole_here bytes h ∙ ap (λ (b : ℕ). bit_at b (7 - h % 8) == 1) (clear (h / 8)) ∙ ap (λ (b : ℕ). b == 1) (bit_at-zero (7 - h % 8))

-- a bit of one byte that another does not have
but_not : (a b i : ℕ) → b < 256 → i < 8 → (bit_at (bit_and a (bit_not w8 b)) i == 1) ≡ ((bit_at a i == 1) && not (bit_at b i == 1))
but_not a b i fits low =
    ap (λ (n : ℕ). n == 1) (bit_at_and a (bit_not w8 b) i ∙ ap (min (bit_at a i)) (bit_at_not w8 b i fits low))
    ∙ tests (bit_at a i) (bit_at b i) (bit_at-lt a i) (bit_at-lt b i) where
      tests : (x y : ℕ) → x < 2 → y < 2 → (min x (1 - y) == 1) ≡ ((x == 1) && not (y == 1))
      tests zero zero h k = refl
      tests zero (suc zero) h k = refl
      tests (suc zero) zero h k = refl
      tests (suc zero) (suc zero) h k = refl
      tests (suc (suc x)) y h k = absurd (omega (arith, h))
      tests x (suc (suc y)) h k = absurd (omega (arith, k))

-- the first bytes have lost the bits that others have
abbrev pub AreCleared : List ℕ → List ℕ → List ℕ → ℕ → Type 0
AreCleared new old others n = (j i : ℕ) → j < n → i < 8 → (bit_at (get_or new j 0) i == 1) ≡ ((bit_at (get_or old j 0) i == 1) && not (bit_at (get_or others j 0) i == 1))

pub cleared_more : (new old others : List ℕ) (at : ℕ) → at < length new → get_or others at 0 < 256 → get_or new at 0 ≡ get_or old at 0 → AreCleared new old others at
    → AreCleared (set new at (bit_and (get_or new at 0) (bit_not w8 (get_or others at 0)))) old others (at + 1)
cleared_more new old others at there fits same before j i low few =
    let byte = bit_and (get_or new at 0) (bit_not w8 (get_or others at 0)) in
    ⊎_elim
    (λ (here : j ≡ at).
    subst (λ (m : ℕ). (bit_at (get_or (set new at byte) m 0) i == 1) ≡ ((bit_at (get_or old m 0) i == 1) && not (bit_at (get_or others m 0) i == 1))) (sym here)
    (ap (λ (b : ℕ). bit_at b i == 1) (get_or-set_same new at byte 0 there) ∙ but_not (get_or new at 0) (get_or others at 0) i fits few
    ∙ ap (λ (b : ℕ). (bit_at b i == 1) && not (bit_at (get_or others at 0) i == 1)) same))
    (λ (apart : j ≢ at). ap (λ (b : ℕ). bit_at b i == 1) (get_or-set_other new at j byte 0 apart) ∙ before j i (omega (arith, low, apart)) few)
    (cases_eq j at)

pub cleared_holes : (new old others : List ℕ) (n : ℕ) → length old ≤ n → AreCleared new old others n → ((j : ℕ) → n ≤ j → get_or new j 0 ≡ get_or old j 0)
    → (h : ℕ) → hole_at new 0 h ≡ (hole_at old 0 h && not (hole_at others 0 h))
cleared_holes new old others n all done rest h =
    hole_here new h ∙ ⊎_elim
    (λ (low : h / 8 < n). done (h / 8) (7 - h % 8) low (omega arith))
    (λ (past : n ≤ h / 8).
    let none : get_or old (h / 8) 0 ≡ 0 = get_or_past old (h / 8) 0 (omega (arith, all, past)) in
    let clear : (bit_at (get_or old (h / 8) 0) (7 - h % 8) == 1) ≡ false = ap (λ (b : ℕ). bit_at b (7 - h % 8) == 1) none ∙ ap (λ (b : ℕ). b == 1) (bit_at-zero (7 - h % 8)) in
    ap (λ (b : ℕ). bit_at b (7 - h % 8) == 1) (rest (h / 8) past) ∙ clear
    ∙ sym (ap (λ b. b && not (bit_at (get_or others (h / 8) 0) (7 - h % 8) == 1)) clear))
    (cases_lt (h / 8) n)
    ∙ sym (ap (λ b. b && not (hole_at others 0 h)) (hole_here old h) ∙ ap (λ b. (bit_at (get_or old (h / 8) 0) (7 - h % 8) == 1) && not b) (hole_here others h))
