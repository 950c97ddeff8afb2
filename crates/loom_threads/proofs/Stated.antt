-- The repeats that a session states for a loom.
use Rattle.std.proofs.Common.{◌⊎◌, inl, inr, ◌≡◌, ◌+◌, ◌<◌, ◌≤◌, ℕ, List, length, take, get_or, sum_by, ap, subst, sym, arith}
use Rattle.std.proofs.lemmas.Bool.{cases_lt}
use Rattle.std.proofs.lemmas.List.{get_or_past}
use Rattle.std.proofs.lemmas.List.Sums.{get_or-le-sum_by, sum_by-le-sum_by, sum_by_more_le}
use Rattle.session_file.specs.Plans.{repeats_in}
use Rattle.session_file.specs.declared.session.ShiftPlan.{ShiftPlan}

-- one number of a list is at most their sum
one_of : (xs : List ℕ) (k : ℕ) → get_or xs k 0 ≤ sum_by (λ n. n) xs
one_of xs k = by (cases_lt k (length xs)) where
  by : (k < length xs) ⊎ (length xs ≤ k) → get_or xs k 0 ≤ sum_by (λ n. n) xs
  by (inl h) = get_or-le-sum_by (λ n. n) xs k 0 h
  by (inr h) = omega (arith, get_or_past xs k 0 h)

-- the repeats of a loom in the first shifts and those in the next one are no more than all repeats
pub next_fits : (shifts : List ShiftPlan) (loom k : ℕ) (next : ShiftPlan) → k < length shifts → next ≡ get_or shifts k next
    → sum_by (λ (plan : ShiftPlan). get_or plan.repeats loom 0) (take k shifts) + get_or next.repeats loom 0 ≤ repeats_in shifts
next_fits shifts loom k next low is =
    let stated : ShiftPlan → ℕ = λ plan. get_or plan.repeats loom 0 in
    omega (arith, sum_by_more_le stated shifts k next low, ap stated is, sum_by-le-sum_by stated (λ (plan : ShiftPlan). sum_by (λ n. n) plan.repeats) shifts (λ plan. one_of plan.repeats loom))
