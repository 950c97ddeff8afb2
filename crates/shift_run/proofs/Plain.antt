-- The slots of acts that are done in plain order.
use Rattle.std.proofs.Common.{◌≡◌, ◌+◌, ◌-◌, ◌≤◌, ℕ, zero, suc, List, [], ◌∷◌, ◌++◌, length, map, take, refl, sym, ap, ◌∙◌, append_assoc, append-nil, add-one, arith}
use Rattle.std.specs.Prelude.{slice_index}
use Rattle.std.specs.List.{range_with_len}
use Rattle.std.proofs.Math.Seq.{take-length}
use Rattle.std.proofs.lemmas.List.{map-append}
use Rattle.std.proofs.lemmas.List.FromFn.{map-range_with_len_more}
use Rattle.version_journal.specs.declared.entry.Entry.{Entry}
use Rattle.session_file.specs.declared.session.ShiftPlan.{ShiftPlan}
use Rattle.shift_model.specs.Plans.{acts_of_painter}
use Rattle.shift_run.specs.inner.Slots.{AddsSlots, Slot, left_slots, painter_slots, plan_slots, slot_of, slots_from, slots_past}
use Rattle.shift_run.proofs.Slots.{slots_taken}

pub adds_none : (es : List Entry) → AddsSlots [] es es
adds_none es = record { new = []; are = sym (append-nil es); named = refl }

pub adds_then : (x y : List Slot) (a b c : List Entry) → AddsSlots x a b → AddsSlots y b c → AddsSlots (x ++ y) a c
adds_then x y a b c f g = record {
  new = f.new ++ g.new;
  are = g.are ∙ ap (λ l. l ++ g.new) f.are ∙ append_assoc a f.new g.new;
  named = map-append slot_of f.new g.new ∙ ap (λ l. l ++ map slot_of g.new) f.named ∙ ap (λ l. x ++ l) g.named;
}

-- the slots of a painter from some place on, with one act more
pub past_none : (k p n : ℕ) → slots_past k p n n ≡ []
past_none k p n = ap (λ m. map (λ (number : ℕ). record { shift = k; painter = p; number = number }) (range_with_len (n + 1) m)) (let e : n - n ≡ 0 = omega arith in e)

pub past_more : (k p from n : ℕ) → from ≤ n → slots_past k p from (n + 1) ≡ slots_past k p from n ++ record { shift = k; painter = p; number = n + 1 } ∷ []
past_more k p from n below =
    ap (λ m. map (λ (number : ℕ). record { shift = k; painter = p; number = number }) (range_with_len (from + 1) m)) (let e : n + 1 - from ≡ (n - from) + 1 = omega arith in e)
    ∙ map-range_with_len_more (λ number. record { shift = k; painter = p; number = number }) (from + 1) (n - from) (n + 1) (omega arith)

past_all : (k p n : ℕ) → slots_past k p 0 n ≡ painter_slots k p n
past_all k p n = ap (λ m. map (λ (number : ℕ). record { shift = k; painter = p; number = number }) (range_with_len 1 m)) (let e : n - 0 ≡ n = omega arith in e)

-- where nothing was done, the slots that are left are all
left_all : (k : ℕ) (plan : ShiftPlan) (done : List ℕ) (n : ℕ) → n ≤ length plan.painters → ((p : ℕ) → slice_index done p ≡ 0)
    → left_slots k plan done n ≡ slots_from k 0 (take n plan.painters)
left_all k plan done zero below none = refl
left_all k plan done (suc n) below none =
    ap (λ l. l ++ slots_past k n (slice_index done n) (length (acts_of_painter plan n))) (left_all k plan done n (omega arith) none)
    ∙ ap (λ m. slots_from k 0 (take n plan.painters) ++ slots_past k n m (length (acts_of_painter plan n))) (none n)
    ∙ ap (λ l. slots_from k 0 (take n plan.painters) ++ l) (past_all k n (length (acts_of_painter plan n)))
    ∙ sym (slots_taken k plan.painters n (omega arith)) ∙ ap (λ m. slots_from k 0 (take m plan.painters)) (add-one n)

pub left_plan : (k : ℕ) (plan : ShiftPlan) (done : List ℕ) → ((p : ℕ) → slice_index done p ≡ 0) → left_slots k plan done (length plan.painters) ≡ plan_slots k plan
left_plan k plan done none = left_all k plan done (length plan.painters) (omega arith) none ∙ ap (slots_from k 0) (take-length plan.painters)
