-- What a shift needs of the desk and the looms that it begins with.
use Rattle.std.proofs.Common.{◌≡◌, ◌+◌, ◌-◌, ◌<◌, ◌≤◌, ◌^◌, ℕ, zero, suc, true, Some, List, [], ◌∷◌, length, get_or, map, drop, refl, sym, ap, subst, ◌∙◌, arith, sum_by}
use Rattle.std.specs.Prelude.{All, slice_get, slice_index}
use Rattle.std.proofs.lemmas.List.Sums.{sum_by-cons, sum_by-le-sum_by}
use Rattle.std.proofs.lemmas.Option.{slice_get-get_or}
use Rattle.mill_base.proofs.lemmas.Lines.{length-line_by}
use Rattle.point_paper.specs.Papers.{PaperCells}
use Rattle.draft_model.specs.Designs.{IsPaperOf}
use Rattle.draft_model.specs.Drawdowns.{bound}
use Rattle.draft_model.specs.declared.design.Design.{Design}
use Rattle.card_image.specs.Sets.{CardDesign, cards_of, design_by}
use Rattle.loom_machine.specs.Machines.{MachineValue}
use Rattle.version_journal.specs.Journals.{ActWithMotif, versions}
use Rattle.session_file.specs.Plans.{Fits, repeats_in}
use Rattle.session_file.specs.declared.session.Session.{Session}
use Rattle.session_file.specs.declared.session.ShiftPlan.{ShiftPlan}
use Rattle.shed_publish.specs.Versions.{IsPublished}
use Rattle.shed_publish.specs.declared.newest.Version.{Version}
use Rattle.shed_publish.proofs.lemmas.Published.{alike}
use Rattle.studio_core.specs.Cores.{IsCore}
use Rattle.loom_threads.specs.Cuts.{machine_of}
use Rattle.loom_threads.specs.Looms.{IsLoomOf, IsTold, Knows, LoomValue, repeats_of}
use Rattle.shift_run.specs.Desks.{IsReady, Stands}
use Rattle.shift_model.specs.Plans.{plan_of}
use Rattle.shift_run.specs.Runs.{IsAtShift, IsLoomAt}
use Rattle.shift_run.specs.inner.Laws.{OpeningFirst}
use Rattle.shift_run.specs.inner.Looms.{AllCanFinish, AllCanWeave, AllDid, AllReadied, IsReadied, part_at}
use Rattle.shift_run.specs.declared.desk.Desk.{Desk}
use Rattle.shift_run.specs.declared.looms.Part.{Part}
use Rattle.shift_run.proofs.Adding.{named_acts}
use Rattle.shift_run.proofs.Shifts.{repeats_split}
use Rattle.shift_run.proofs.Shown.{numbered_length, version_shown}
use Rattle.shift_run.proofs.Weaving.{can_finish}

-- the cards of the design
abbrev cards_for : Design → CardDesign
cards_for design = design_by design.casting design.size.picks

cards_design : (design : Design) (paper : PaperCells) → IsPaperOf design paper → (cards_of design paper).design ≡ cards_for design
unfolding bound
cards_design design paper fits = ap (design_by design.casting) (length-line_by paper.picks _ ∙ fits.picks)

-- the first version that is published
record BeginsFor (session : Session) (list : List Version) : Type 0 where
  first : Version
  there : slice_get list 0 ≡ Some first
  design : first.cards.design ≡ cards_for session.design

begins_for : OpeningFirst → (session : Session) (desk : Desk) → Fits session → Stands session desk → BeginsFor session desk.end.list
begins_for first session desk fits stands = record {
  first = record { version = 0 + 0; cards = cards_of session.design session.opening };
  there = ap (λ l. slice_get l 0) stands.shown
      ∙ version_shown session.design 0 (versions session.design session.opening (named_acts session desk.core.entries)) 0 session.opening (first session.design session.opening (named_acts session desk.core.entries));
  design = cards_design session.design session.opening fits.opening;
}

-- the desk is ready for acts
pub desk_ready : OpeningFirst → (session : Session) (desk : Desk) → Fits session → Stands session desk → IsPublished desk.end.list → IsReady desk
desk_ready first session desk fits stands published =
    let b : BeginsFor session desk.end.list = begins_for first session desk fits stands in
    let long : length desk.end.list ≡ desk.core.version + 1 =
    ap length stands.shown ∙ numbered_length session.design 0 (versions session.design session.opening (named_acts session desk.core.entries)) ∙ stands.holds.at.last in
    record {
      of_desk = record {
        published = published;
        some = omega (arith, long);
        cards = λ k d h. alike desk.end.list k 0 (get_or desk.end.list k d) b.first published (slice_get-get_or desk.end.list k d h) b.there ∙ b.design ∙ ap cards_for (sym stands.holds.design);
        reached = omega (arith, long);
        no_more = omega (arith, long);
      };
      published = omega (arith, long);
    }

-- a loom has no more repeats than the session states for all looms
at_most_sum : (xs : List ℕ) (j : ℕ) → slice_index xs j ≤ sum_by (λ n. n) xs
at_most_sum [] j = omega arith
at_most_sum (x ∷ xs) zero = omega (arith, sum_by-cons (λ (n : ℕ). n) x xs)
at_most_sum (x ∷ xs) (suc j) = omega (arith, sum_by-cons (λ (n : ℕ). n) x xs, at_most_sum xs j)

pub few_repeats : (session : Session) (k : ℕ) (desk : Desk) (looms : List LoomValue) → Fits session → IsAtShift session k desk looms
    → (j : ℕ) (d : LoomValue) → j < length looms → length (get_or looms j d).repeats < 2 ^ 32
few_repeats session k desk looms fits at j d h = omega (arith, (at.each j d h).whole, sum_by-le-sum_by (λ (plan : ShiftPlan). slice_index plan.repeats j) (λ (plan : ShiftPlan). sum_by (λ n. n) plan.repeats) session.shifts (λ plan. at_most_sum plan.repeats j), fits.repeats)

-- a loom that was told can weave
told_for : (session : Session) (j : ℕ) (told : List Version) (part : Part) (before ready : LoomValue) → IsLoomOf session j before → BeginsFor session told → IsReadied told part before ready
    → part.told ≡ true → IsTold ready
told_for session j told part before ready kind b r t = record {
  told = told;
  knows = r.knows t;
  first = b.first;
  there = b.there;
  design = b.design ∙ ap (λ (m : MachineValue). design_by m.casting session.design.size.picks) (sym kind.machine ∙ sym (ap (λ (l : LoomValue). l.machine) r.same))
      ∙ ap (design_by ready.machine.casting) (sym kind.picks ∙ sym (ap (λ (l : LoomValue). l.picks) r.same));
}

pub can_weave : OpeningFirst → (session : Session) (k : ℕ) (desk told : Desk) (looms ready : List LoomValue) (parts : List Part) → Fits session → k < length session.shifts
    → IsAtShift session k desk looms → Stands session told → AllReadied told.end.list parts looms ready → AllCanWeave (plan_of session k).repeats parts ready
can_weave first session k desk told looms ready parts fits there at stands r = record {
  each = λ j d h.
      let here : j < length looms = omega (arith, h, r.looms) in
      let one = at.each j d here in
      let done = r.each j d here in
      record {
        room = omega (arith, one.room, repeats_split session k j there, ap (λ (l : LoomValue). l.spare) done.same);
        told = told_for session j told.end.list (part_at parts j) (get_or looms j d) (get_or ready j d) one.kind (begins_for first session told fits stands) done;
      };
}

pub can_finish_all : (session : Session) (k : ℕ) (desk after : Desk) (looms ready did : List LoomValue) (parts : List Part) (told : List Version) → k < length session.shifts → IsAtShift session k desk looms
    → AllReadied told parts looms ready → AllDid k (plan_of session k).repeats parts ready did → IsCore after.core → after.core.design ≡ session.design
    → AllCanFinish (plan_of session k).repeats after.core.cards parts did
can_finish_all session k desk after looms ready did parts told there at r d core same = record {
  each = λ j x h.
      let here : j < length ready = omega (arith, h, d.looms) in
      let there' : j < length looms = omega (arith, here, r.looms) in
      let one = at.each j x there' in
      can_finish k (slice_index (plan_of session k).repeats j) told (part_at parts j) (get_or looms j x) (get_or ready j x) (get_or did j x) after.core.cards (r.each j x there') (d.each j x here)
      (omega (arith, one.room, repeats_split session k j there))
      (core.of_cards ∙ ap cards_for same ∙ ap (λ (m : MachineValue). design_by m.casting session.design.size.picks) (sym one.kind.machine)
      ∙ ap (design_by (get_or looms j x).machine.casting) (sym one.kind.picks));
}
