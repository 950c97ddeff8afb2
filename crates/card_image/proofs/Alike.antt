-- Tests that agree, and numbers and holes of bytes that begin alike.
use Rattle.std.proofs.Common.{◌≡◌, ℕ, zero, suc, ◌+◌, ◌-◌, ◌*◌, ◌/◌, ◌%◌, ◌<◌, ◌≤◌, ◌==◌, Bool, true, false, cond, not, ◌&&◌, List, [], ◌∷◌, ◌++◌, length, take, drop, length-drop, Option, Some, None, ap, refl, ◌∙◌, arith}
use Rattle.std.proofs.lemmas.List.{drop-append-le, get_or_append_left, drop_more, drop_all}
use Rattle.std.specs.Int.{bit_at}
use Rattle.byteorder.specs.Endian.{big_number}
use Rattle.byteorder.specs.Numbers.{big_from-append}
use Rattle.mill_base.proofs.lemmas.Belows.{any_alike, count_alike}
use Rattle.std.specs.Option.{option_or}
use Rattle.card_image.specs.Firsts.{first_of, passing}
use Rattle.mill_base.specs.Below.{count_below}
use Rattle.card_image.specs.Places.{hole_bytes, number_at, hole_at}
use Rattle.card_image.specs.Sets.{hangs}
use Rattle.card_image.specs.Faults.{begins, has_pad, first_idle, holes_fault}

pub first_alike : {A : Type 0} (f g : ℕ → Option A) (n : ℕ) → ((k : ℕ) → k < n → f k ≡ g k) → first_of f n ≡ first_of g n
first_alike f g zero same = refl
first_alike f g (suc n) same = ap (λ o. option_or o (f n)) (first_alike f g n (λ k h. same k (omega arith))) ∙ ap (option_or (first_of g n)) (same n (omega arith))

-- the faults of a card are by its bits alone
pub holes_alike : (hooks : ℕ) (columns : List ℕ) (pick written : ℕ) (p q : ℕ → Bool) → ((h : ℕ) → h < 8 * hole_bytes hooks → p h ≡ q h)
    → holes_fault hooks columns pick written p ≡ holes_fault hooks columns pick written q
unfolding holes_fault
holes_alike hooks columns pick written p q same =
    let low : hooks ≤ 8 * hole_bytes hooks = omega arith in
    let pad : has_pad hooks p ≡ has_pad hooks q = any_alike (λ k. p (hooks + k)) (λ k. q (hooks + k)) (8 * hole_bytes hooks - hooks) (λ k h. same (hooks + k) (omega arith)) in
    let idle : first_idle hooks columns p ≡ first_idle hooks columns q =
    first_alike (passing (λ h. p h && not (hangs columns h))) (passing (λ h. q h && not (hangs columns h))) hooks
    (λ k h. ap (λ b. cond (b && not (hangs columns k)) (Some k) None) (same k (omega arith))) in
    let count : count_below p hooks ≡ count_below q hooks = count_alike p q hooks (λ k h. same k (omega arith)) in
    rw (pad, idle, count) refl

-- a number is read from its four bytes alone
pub number_longer : (xs ys : List ℕ) (at : ℕ) → at + 4 ≤ length xs → number_at (xs ++ ys) at ≡ number_at xs at
number_longer xs ys at there =
    let long = length-drop at xs in
    ap (big_number 4) (drop-append-le at xs ys (omega arith)) ∙ big_from-append 4 (drop at xs) ys (omega arith)

pub hole_longer : (xs ys : List ℕ) (at h : ℕ) → at + h / 8 < length xs → hole_at (xs ++ ys) at h ≡ hole_at xs at h
hole_longer xs ys at h there = ap (λ b. bit_at b (7 - h % 8) == 1) (get_or_append_left xs ys 0 (at + h / 8) there)

-- where the bytes so far don't begin as the magic does, more bytes don't either
pub begins_not : (n : ℕ) (xs ys whole : List ℕ) → begins (take n xs) whole ≡ false → begins (take n (xs ++ ys)) whole ≡ false
begins_not zero xs ys whole is = absurd (cc)
begins_not (suc n) [] ys whole is = absurd (cc)
begins_not (suc n) (x ∷ xs) ys [] is = refl
begins_not (suc n) (x ∷ xs) ys (y ∷ whole) is = here (x == y) (begins_not n xs ys whole) is where
  here : (b : Bool) → (begins (take n xs) whole ≡ false → begins (take n (xs ++ ys)) whole ≡ false)
      → (b && begins (take n xs) whole) ≡ false → (b && begins (take n (xs ++ ys)) whole) ≡ false
  here true longer e = longer e
  here false longer e = refl

pub begins_short : (xs ys : List ℕ) (i : ℕ) → i < length xs → length ys ≤ i → begins (drop i xs) (drop i ys) ≡ false
begins_short xs ys i low past = rw (drop_more xs i 0 low, drop_all i ys past) refl
