-- Acts that are done in plain order by a core that no loom reads.
use Rattle.std.proofs.Common.{◌≡◌, ◌+◌, ◌-◌, ◌<◌, ◌≤◌, ℕ, List, [], ◌∷◌, ◌++◌, Some, length, map, take, sym, ap, subst, ◌∙◌, append_assoc, length-append, add-one, sum_by, arith}
use Rattle.std.specs.Prelude.{slice_get}
use Rattle.std.proofs.Math.Seq.{take-length, take-suc}
use Rattle.std.proofs.lemmas.List.{map-append}
use Rattle.std.proofs.lemmas.List.Sums.{sum_by-append, sum_by-take-le}
use Rattle.version_journal.specs.Journals.{ActWithMotif, versions, with_motif, with_motifs}
use Rattle.version_journal.specs.declared.entry.Entry.{Entry}
use Rattle.session_file.specs.Plans.{acts_in, acts_of_plan, plain_acts}
use Rattle.session_file.specs.declared.session.Session.{Session}
use Rattle.session_file.specs.declared.session.ShiftPlan.{ShiftPlan}
use Rattle.shift_model.specs.Logs.{named_act}
use Rattle.shift_model.specs.Plans.{IsNewest, plain_order, plain_versions, plan_of}
use Rattle.shift_run.specs.inner.Slots.{AddsSlots, Slot, plan_slots, slot_of}
use Rattle.shift_run.specs.inner.Unread.{AreDone, Does}
use Rattle.shift_run.specs.declared.unread.Unread.{Unread}
use Rattle.shift_run.proofs.Single.{plain_more}
use Rattle.shift_run.proofs.Slots.{named_plan, slots_count}

adds_then : (x y : List Slot) (a b c : List Entry) → AddsSlots x a b → AddsSlots y b c → AddsSlots (x ++ y) a c
adds_then x y a b c f g = record {
  new = f.new ++ g.new;
  are = g.are ∙ ap (λ l. l ++ g.new) f.are ∙ append_assoc a f.new g.new;
  named = map-append slot_of f.new g.new ∙ ap (λ l. l ++ map slot_of g.new) f.named ∙ ap (λ l. x ++ l) g.named;
}

pub does_then : (session : Session) (x y : List Slot) (a b c : Unread) → Does session x a b → Does session y b c → Does session (x ++ y) a c
does_then session x y a b c f g = record {
  adds = adds_then x y a.core.entries b.core.entries c.core.entries f.adds g.adds;
  spare = omega (arith, f.spare, g.spare, length-append x y);
  at = λ h. g.at (f.at h);
  can = g.can;
}

acts_more : (session : Session) (k : ℕ) → k < length session.shifts → acts_in (take (k + 1) session.shifts) ≡ acts_in (take k session.shifts) + sum_by length (plan_of session k).painters
acts_more session k there =
    let count : ShiftPlan → ℕ = λ plan. sum_by length plan.painters in
    ap (λ n. sum_by count (take n session.shifts)) (add-one k) ∙ ap (sum_by count) (take-suc session.shifts k (record { repeats = []; painters = [] }) there)
    ∙ sum_by-append count (take k session.shifts) (plan_of session k ∷ [])
    ∙ (let e : sum_by count (take k session.shifts) + (0 + count (plan_of session k)) ≡ sum_by count (take k session.shifts) + count (plan_of session k) = omega arith in e)

-- the room that a shift takes
pub shift_room : (session : Session) (k : ℕ) (unread : Unread) → k < length session.shifts → AreDone session k unread → sum_by length (plan_of session k).painters ≤ unread.core.spare
shift_room session k unread there done =
    omega (
      arith,
      done.spare,
      sum_by-take-le (λ (plan : ShiftPlan). sum_by length plan.painters) session.shifts (k + 1),
      acts_more session k there,
    )

-- one shift more
pub shift_done : (session : Session) (k : ℕ) (unread after : Unread) → k < length session.shifts → AreDone session k unread → Does session (plan_slots k (plan_of session k)) unread after
    → AreDone session (k + 1) after
shift_done session k unread after there done does = record {
  at = does.at done.at;
  can = does.can;
  order = ap (map (named_act session)) does.adds.are ∙ map-append (named_act session) unread.core.entries does.adds.new
      ∙ ap (λ l. l ++ map (named_act session) does.adds.new) done.order
      ∙ ap (λ l. with_motifs session.motifs (plain_acts (take k session.shifts)) ++ l) (named_plan session k does.adds.new does.adds.named)
      ∙ sym (map-append (with_motif session.motifs) (plain_acts (take k session.shifts)) (acts_of_plan (plan_of session k)))
      ∙ ap (map (with_motif session.motifs)) (sym (plain_more session k there));
  spare = omega (arith, does.spare, done.spare, slots_count k 0 (plan_of session k).painters, acts_more session k there);
}

-- all acts are done
pub newest_is : (session : Session) (unread : Unread) → AreDone session (length session.shifts) unread → IsNewest (plain_versions session) unread.newest
newest_is session unread done =
    let of : List ActWithMotif = map (named_act session) unread.core.entries in
    let order : of ≡ plain_order session = done.order ∙ ap (λ (l : List ShiftPlan). with_motifs session.motifs (plain_acts l)) (take-length session.shifts) in
    subst (λ (acts : List ActWithMotif). slice_get (versions session.design session.opening acts) (length (versions session.design session.opening acts) - 1) ≡ Some unread.newest) order
    (ap (slice_get (versions session.design session.opening of)) (let e : length (versions session.design session.opening of) - 1 ≡ unread.core.version = omega (arith, done.at.at.last) in e) ∙ done.at.newest)
