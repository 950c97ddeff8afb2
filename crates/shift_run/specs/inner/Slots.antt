-- Which acts entries name, and those of a plan in plain order.
use Rattle.std.specs.Prelude.{◌≡◌, ℕ, zero, suc, ◌+◌, ◌-◌, List, [], ◌∷◌, ◌++◌, length, map, slice_index, slice_index_or}
use Rattle.std.specs.List.{range_with_len}
use Rattle.strokes.specs.declared.act.Act.{Act}
use Rattle.strokes.specs.declared.act.Act.TheVariants.{Commit}
use Rattle.version_journal.specs.Journals.{ActWithMotif, with_motif}
use Rattle.version_journal.specs.declared.entry.Entry.{Entry}
use Rattle.session_file.specs.declared.session.Session.{Session}
use Rattle.session_file.specs.declared.session.ShiftPlan.{ShiftPlan}
use Rattle.shift_model.specs.Plans.{plan_of, acts_of_painter}

-- the shift and the painter of an entry, and its number among the painter's acts of the shift
pub record Slot : Type 0 where
  pub shift : ℕ
  pub painter : ℕ
  pub number : ℕ

abbrev pub slot_of : Entry → Slot
slot_of entry = record { shift = entry.shift; painter = entry.painter; number = entry.number }

-- the act of a slot, with the cells of its motif
abbrev pub slot_act : Session → Slot → ActWithMotif
slot_act session slot = with_motif session.motifs (slice_index_or (acts_of_painter (plan_of session slot.shift) slot.painter) (slot.number - 1) Commit)

-- the slots of so many acts of a painter
abbrev pub painter_slots : ℕ → ℕ → ℕ → List Slot
painter_slots shift painter count = map (λ number. record { shift = shift; painter = painter; number = number }) (range_with_len 1 count)

-- the slots of the acts of a painter that are left, where so many of the count were done
abbrev pub slots_past : ℕ → ℕ → ℕ → ℕ → List Slot
slots_past shift painter done count = map (λ number. record { shift = shift; painter = painter; number = number }) (range_with_len (done + 1) (count - done))

-- the slots of the acts of painters, of which the first has this number
abbrev pub slots_from : ℕ → ℕ → List (List Act) → List Slot
slots_from shift painter [] = []
slots_from shift painter (acts ∷ later) = painter_slots shift painter (length acts) ++ slots_from shift (painter + 1) later

-- the slots of the acts of a plan in plain order
abbrev pub plan_slots : ℕ → ShiftPlan → List Slot
plan_slots shift plan = slots_from shift 0 plan.painters

-- the slots of the acts that are left of the first painters of a plan, where so many of each were done
abbrev pub left_slots : ℕ → ShiftPlan → List ℕ → ℕ → List Slot
left_slots shift plan done zero = []
left_slots shift plan done (suc painter) =
    left_slots shift plan done painter ++ slots_past shift painter (slice_index done painter) (length (acts_of_painter plan painter))

-- entries of these slots were added
pub record AddsSlots (slots : List Slot) (before after : List Entry) : Type 0 where
  pub new : List Entry
  pub are : after ≡ before ++ new
  pub named : map slot_of new ≡ slots
