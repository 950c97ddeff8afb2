-- Stretches of columns: their hooks, and the hooks that they are put on.
use Rattle.std.proofs.Common.{◌≡◌, ◌+◌, ◌-◌, ◌<◌, ◌≤◌, ◌==◌, ◌&&◌, ◌||◌, inl, inr, ℕ, Bool, false, List, length, get_or, All, sym, ap, ◌∙◌, arith}
use Rattle.std.proofs.lemmas.Bool.{ne_eqb}
use Rattle.std.proofs.lemmas.List.FromFn.{length-range_with_len, get_or-range_with_len}
use Rattle.mill_base.specs.Below.{any_below}
use Rattle.mill_base.specs.Stretches.{IsLaid}
use Rattle.mill_base.proofs.lemmas.Belows.{any_none}
use Rattle.mill_base.proofs.lemmas.Pieces.{IsGatheredTo, piece_at, piece_within, in_range, reaches, joined_here, joined_nowhere}
use Rattle.casting_out.specs.declared.stretch.Stretch.{Stretch}
use Rattle.casting_out.specs.inner.Stretches.{IsStretch, stretch_hooks, written_out}

pub length-stretch_hooks : (s : Stretch) → length (stretch_hooks s) ≡ s.count
length-stretch_hooks s = length-range_with_len s.hook s.count

pub get_or-stretch_hooks : (s : Stretch) (i : ℕ) → i < s.count → get_or (stretch_hooks s) i 0 ≡ s.hook + i
get_or-stretch_hooks s i h = get_or-range_with_len s.hook s.count i 0 h

-- a stretch whose last hook is there
pub stretch_there : (columns : List ℕ) (at hooks : ℕ) (s : Stretch) → All (λ h. h < hooks) columns → 0 < s.count → at + s.count ≤ length columns
    → ((i : ℕ) → i < s.count → get_or columns (at + i) 0 ≡ s.hook + i) → IsStretch hooks s
stretch_there columns at hooks s low some room same = record {
  some = some;
  there = let last = low (at + (s.count - 1)) 0 (omega arith) in let is = same (s.count - 1) (omega arith) in omega arith;
}

-- a hook of a stretch has no column before it, so that its cell is put where nothing was
pub put_joins : (ss : List Stretch) (k at : ℕ) (s : Stretch) (row : List Bool) (hooks : ℕ) (old new : List Bool) → k < length ss
    → ((c d : ℕ) → c < d → d < length (written_out ss) → get_or (written_out ss) c 0 < get_or (written_out ss) d 0)
    → 0 < (get_or ss k s).count → IsGatheredTo stretch_hooks ss k at row hooks old
    → IsLaid old (get_or ss k s).hook (get_or ss k s).count (λ i. get_or row (at + i) false) new
    → (h : ℕ) → get_or new h false ≡ (get_or old h false || any_below (λ i. ((get_or ss k s).hook + i == h) && get_or row (at + i) false) (get_or ss k s).count)
put_joins ss k at s row hooks old new low rising some before laid h =
    let t = get_or ss k s in
    let place : ℕ → ℕ = λ i. t.hook + i in
    let cell : ℕ → Bool = λ i. get_or row (at + i) false in
    elim (in_range t.hook t.count h) [
      | inl here ↦
          let own : t.hook + (h - t.hook) ≡ h = omega (arith, here) in
          joined_here place cell t.count (h - t.hook) h (get_or old h false) (get_or new h false) (omega (arith, here)) own (λ i below ne e. absurd (omega (arith, here)))
          (ap (λ n. get_or new n false) (sym own) ∙ laid.here (h - t.hook) (omega (arith, here))
          ∙ ap (λ b. b || cell (h - t.hook)) (sym (clear (omega (arith, here)))))
      | inr (inl under) ↦ joined_nowhere place cell t.count h (get_or old h false) (get_or new h false) (λ i below e. absurd (omega (arith, under))) (laid.below h under)
      | inr (inr past) ↦ joined_nowhere place cell t.count h (get_or old h false) (get_or new h false) (λ i below e. absurd (omega (arith, past))) (laid.past h past)
    ] where
      clear : (get_or ss k s).hook ≤ h → get_or old h false ≡ false
      clear after =
          let t = get_or ss k s in
          let first = piece_at stretch_hooks ss k at t.count 0 s low (length-stretch_hooks t) before.begins some ∙ get_or-stretch_hooks t 0 some in
          let here : at + 0 ≡ at = omega arith in
          let within = piece_within stretch_hooks ss k at t.count s low (length-stretch_hooks t) before.begins in
          before.gathered h
          ∙ any_none (reaches (written_out ss) row h) at
          (λ c below. ap (λ b. b && get_or row c false) (ne_eqb (get_or (written_out ss) c 0) h
          (λ e. let less = rising c at below (omega arith) in let at_first = ap (λ n. get_or (written_out ss) n 0) here in absurd (omega arith))))
