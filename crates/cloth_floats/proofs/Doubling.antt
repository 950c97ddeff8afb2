-- Tests of a stretch of numbers, which grows by a part of itself.
use Rattle.std.proofs.Common.{◌≡◌, ℕ, ◌+◌, ◌-◌, ◌<◌, ◌≤◌, Bool, true, ◌&&◌, ◌||◌, ap, ◌∙◌, ⊎_elim, arith}
use Rattle.std.proofs.lemmas.Bool.{cases_lt, and_from, and_parts, or_left, or_right, or_cases}
use Rattle.mill_base.specs.Below.{any_below, all_below}
use Rattle.mill_base.proofs.lemmas.Belows.{any_here, any_witness, all_each, all_at, true_together}

-- each of the first `width` and each of the `width` from `by` on is each of the first width + by
pub all_doubled : (p : ℕ → Bool) (width by : ℕ) → by ≤ width → (all_below p width && all_below (λ j. p (by + j)) width) ≡ all_below p (width + by)
all_doubled p width by h = true_together (all_below p width && all_below (λ j. p (by + j)) width) (all_below p (width + by))
    (λ both.
    let parts = and_parts (all_below p width) (all_below (λ j. p (by + j)) width) both in
    all_each p (width + by) (λ i below. ⊎_elim
    (λ (near : i < width). all_at p width i parts.0 near)
    (λ (far : width ≤ i). ap p (let e : i ≡ by + (i - by) = omega arith in e) ∙ all_at (λ j. p (by + j)) width (i - by) parts.1 (omega arith))
    (cases_lt i width)))
    (λ all. and_from (all_below p width) (all_below (λ j. p (by + j)) width)
    (all_each p width (λ i below. all_at p (width + by) i all (omega arith)))
    (all_each (λ j. p (by + j)) width (λ j below. all_at p (width + by) (by + j) all (omega arith))))

-- likewise one of them
pub any_doubled : (p : ℕ → Bool) (width by : ℕ) → by ≤ width → (any_below p width || any_below (λ i. p (by + i)) width) ≡ any_below p (width + by)
any_doubled p width by h = true_together (any_below p width || any_below (λ i. p (by + i)) width) (any_below p (width + by))
    (λ either. ⊎_elim
    (λ (near : any_below p width ≡ true). let some = any_witness p width near in any_here p (width + by) some.0 (let low = some.1 in omega arith) some.2)
    (λ (far : any_below (λ i. p (by + i)) width ≡ true).
    let some = any_witness (λ i. p (by + i)) width far in
    any_here p (width + by) (by + some.0) (let low = some.1 in omega arith) some.2)
    (or_cases (any_below p width) (any_below (λ i. p (by + i)) width) either))
    (λ some.
    let found = any_witness p (width + by) some in
    let low = found.1 in
    ⊎_elim
    (λ (near : found.0 < width). or_left (any_below p width) (any_below (λ i. p (by + i)) width) (any_here p width found.0 near found.2))
    (λ (far : width ≤ found.0). or_right (any_below p width) (any_below (λ i. p (by + i)) width)
    (any_here (λ i. p (by + i)) width (found.0 - by) (omega arith) (ap p (let e : by + (found.0 - by) ≡ found.0 = omega arith in e) ∙ found.2)))
    (cases_lt found.0 width))
