-- Stretches of ends: their columns, and the columns that are drawn together.
use Rattle.std.proofs.Common.{◌≡◌, ◌+◌, ◌-◌, ◌<◌, ◌≤◌, ◌==◌, ◌&&◌, ◌||◌, inl, inr, ℕ, Bool, true, false, List, length, get_or, sym, ap, refl, ◌∙◌, arith}
use Rattle.mill_base.specs.Below.{any_below}
use Rattle.mill_base.specs.Stretches.{IsLaid}
use Rattle.mill_base.proofs.lemmas.Lines.{length-line_by, get_or-line_by}
use Rattle.mill_base.proofs.lemmas.Pieces.{in_range, joined_here, joined_nowhere}
use Rattle.harness_ties.specs.declared.stretch.Stretch.{Stretch}
use Rattle.harness_ties.specs.inner.Stretches.{column_of, stretch_columns}

pub length-stretch_columns : (s : Stretch) → length (stretch_columns s) ≡ s.count
length-stretch_columns s = length-line_by s.count (column_of s)

pub get_or-stretch_columns : (s : Stretch) (i : ℕ) → i < s.count → get_or (stretch_columns s) i 0 ≡ column_of s i
get_or-stretch_columns s i h = get_or-line_by s.count (column_of s) i 0 h

rising_at : (s : Stretch) (i : ℕ) → s.falling ≡ false → column_of s i ≡ s.column + i
rising_at s i rises = rw rises refl

falling_at : (s : Stretch) (i : ℕ) → s.falling ≡ true → column_of s i ≡ s.column - i
falling_at s i falls = rw falls refl

pub joined_rising : (s : Stretch) (end : ℕ) (ends old new : List Bool) → s.falling ≡ false
    → IsLaid old s.column s.count (λ i. get_or old (s.column + i) false || get_or ends (end + i) false) new
    → (c : ℕ) → get_or new c false ≡ (get_or old c false || any_below (λ i. (column_of s i == c) && get_or ends (end + i) false) s.count)
joined_rising s end ends old new rises laid c = elim (in_range s.column s.count c) [
  | inl here ↦
      let place : s.column + (c - s.column) ≡ c = omega (arith, here) in
      joined_here (column_of s) (λ i. get_or ends (end + i) false) s.count (c - s.column) c (get_or old c false) (get_or new c false) (omega (arith, here)) (rising_at s (c - s.column) rises ∙ place)
      (λ k h ne e. let at = rising_at s k rises in absurd (omega (arith, here)))
      (ap (λ n. get_or new n false) (sym place) ∙ laid.here (c - s.column) (omega (arith, here)) ∙ ap (λ n. get_or old n false || get_or ends (end + (c - s.column)) false) place)
  | inr (inl before) ↦ joined_nowhere (column_of s) (λ i. get_or ends (end + i) false) s.count c (get_or old c false) (get_or new c false)
      (λ k h e. let at = rising_at s k rises in absurd (omega (arith, before))) (laid.below c before)
  | inr (inr past) ↦ joined_nowhere (column_of s) (λ i. get_or ends (end + i) false) s.count c (get_or old c false) (get_or new c false)
      (λ k h e. let at = rising_at s k rises in absurd (omega (arith, past))) (laid.past c past)
]

pub joined_falling : (s : Stretch) (end steps : ℕ) (ends old new : List Bool) → s.falling ≡ true → s.count ≡ steps + 1 → steps ≤ s.column
    → IsLaid old (s.column - steps) s.count (λ i. get_or old (s.column - steps + i) false || get_or ends (end + steps - i) false) new
    → (c : ℕ) → get_or new c false ≡ (get_or old c false || any_below (λ i. (column_of s i == c) && get_or ends (end + i) false) s.count)
joined_falling s end steps ends old new falls count down laid c = elim (in_range (s.column - steps) s.count c) [
  | inl here ↦
      let place : s.column - steps + (c - (s.column - steps)) ≡ c = omega (arith, here) in
      let back : end + steps - (c - (s.column - steps)) ≡ end + (s.column - c) = omega (arith, here) in
      let own : s.column - (s.column - c) ≡ c = omega (arith, here) in
      joined_here (column_of s) (λ i. get_or ends (end + i) false) s.count (s.column - c) c (get_or old c false) (get_or new c false) (omega (arith, here)) (falling_at s (s.column - c) falls ∙ own)
      (λ k h ne e. let at = falling_at s k falls in absurd (omega (arith, here)))
      (ap (λ n. get_or new n false) (sym place) ∙ laid.here (c - (s.column - steps)) (omega (arith, here))
      ∙ ap (λ n. get_or old n false || get_or ends (end + steps - (c - (s.column - steps))) false) place ∙ ap (λ n. get_or old c false || get_or ends n false) back)
  | inr (inl before) ↦ joined_nowhere (column_of s) (λ i. get_or ends (end + i) false) s.count c (get_or old c false) (get_or new c false)
      (λ k h e. let at = falling_at s k falls in absurd (omega (arith, before))) (laid.below c before)
  | inr (inr past) ↦ joined_nowhere (column_of s) (λ i. get_or ends (end + i) false) s.count c (get_or old c false) (get_or new c false)
      (λ k h e. let at = falling_at s k falls in absurd (omega (arith, past))) (laid.past c past)
]
