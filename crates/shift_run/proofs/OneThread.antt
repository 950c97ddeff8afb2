-- A shift on one thread.
use Rattle.std.proofs.Common.{◌≡◌, ◌+◌, ◌-◌, ◌<◌, ◌≤◌, ℕ, true, false, List, [], ◌∷◌, ◌++◌, length, length-append, get_or, map, refl, sym, ap, subst, ◌∙◌, arith, append-nil}
use Rattle.std.specs.Prelude.{All, slice_get}
use Rattle.std.proofs.lemmas.List.{map-append}
use Rattle.std.proofs.lemmas.List.Elements.{All-append}
use Rattle.std.proofs.lemmas.Option.{slice_get_within}
use Rattle.casting_out.specs.Castings.{IsCasting}
use Rattle.version_journal.specs.Journals.{with_motifs}
use Rattle.version_journal.specs.declared.entry.Entry.{Entry}
use Rattle.version_journal.specs.declared.run_log.Repeat.{Repeat}
use Rattle.session_file.specs.Plans.{Fits, acts_of_plan}
use Rattle.session_file.specs.declared.session.Session.{Session}
use Rattle.shed_publish.specs.Ends.{DeskValue}
use Rattle.shed_publish.specs.Versions.{IsPrefix}
use Rattle.shed_publish.specs.declared.newest.Version.{Version}
use Rattle.loom_threads.specs.Looms.{IsShown, LoomValue}
use Rattle.shift_run.specs.Desks.{Stands, versions_of}
use Rattle.shift_model.specs.Logs.{IsLoomLog, accepted_before, named_act}
use Rattle.shift_model.specs.Plans.{plan_of}
use Rattle.shift_run.specs.Runs.{AreNewest, GoesOnFrom, IsAtShift, IsCutShort, log_of}
use Rattle.shift_run.specs.inner.Adds.{AddsEntries}
use Rattle.shift_run.specs.inner.Foreman.{Directs, IsBroken}
use Rattle.shift_run.specs.inner.Laws.{CardsLift, OpeningFirst, VersionsCount, VersionsStay}
use Rattle.shift_run.specs.inner.Looms.{AllCanWeave, AllDid, AllDidShift, AllFinished, AllReadied}
use Rattle.shift_run.specs.inner.Shifts.{IsDoneAlone, IsShort}
use Rattle.shift_run.specs.inner.Slots.{AddsSlots, plan_slots}
use Rattle.shift_run.specs.declared.desk.Desk.{Desk}
use Rattle.shift_run.specs.declared.looms.Part.{Part}
use Rattle.shift_run.proofs.Adding.{accepted_rises, shifts_low}
use Rattle.shift_run.proofs.Shifts.{HasGone, acts_gone, all_did_shift, all_older, broken_gone, looms_are, repeats_at, versions_now}
use Rattle.shift_run.proofs.Short.{DidActs, idle_left, shift_leaves, told_stands}
use Rattle.shift_run.proofs.Shown.{numbered_length}
use Rattle.shift_run.proofs.Slots.{named_plan}
use Rattle.shed_publish.proofs.lemmas.Prefixes.{prefix_refl}

-- the new repeats have the newest version
new_newest : (session : Session) (k first : ℕ) (desk after : Desk) (looms done : List LoomValue) (repeats : List ℕ) → IsAtShift session k desk looms
    → first ≡ accepted_before (k + 1) after.core.entries → length (versions_of session after) ≡ first + 1
    → AllDidShift k first (versions_of session after) repeats looms done → AreNewest k after.core.entries done
new_newest session k first desk after looms done repeats at is long d = record {
  each = λ j x h.
      let here : j < length looms = omega (arith, h, d.looms) in
      let one = d.each j x here in
      let low : All (λ (r : Repeat). r.shift < k) (get_or looms j x).repeats =
      subst (λ (l : List Repeat). All (λ (r : Repeat). r.shift < k) l) (repeats_at looms j x here)
      (shifts_low session desk.core.entries k j _ (at.legal.repeats j (omega (arith, here, looms_are session k desk looms at)))) in
      subst (λ (l : List Repeat). All (λ (r : Repeat). r.shift ≡ k → r.version ≡ accepted_before (k + 1) after.core.entries) l) (sym one.are)
      (All-append (λ (r : Repeat). r.shift ≡ k → r.version ≡ accepted_before (k + 1) after.core.entries) (get_or looms j x).repeats one.new
      (λ i r b s. absurd (omega (arith, low i r b, s)))
      (λ i r b s. omega (
        arith,
        is,
        long,
        one.woven.no_older i r b,
        slice_get_within (versions_of session after) (get_or one.new i r).version _ (one.woven.shown i r b).entry,
      )));
}

-- a shift whose looms were told all versions before they wove
pub in_turn : VersionsStay → VersionsCount → CardsLift → (session : Session) (k known : ℕ) (desk work : Desk) (end : DeskValue) (looms ready did done : List LoomValue) (parts : List Part)
    → IsCasting session.design.casting → k < length session.shifts → IsAtShift session k desk looms → Directs session k desk work true → end.list ≡ work.end.list
    → known ≤ length work.end.list → AllReadied work.end.list parts looms ready → AllDid k (plan_of session k).repeats parts ready did
    → AllFinished k known work.core.version work.core.cards end.list (plan_of session k).repeats parts did done
    → AddsSlots (plan_slots k (plan_of session k)) desk.core.entries work.core.entries → IsDoneAlone session k desk (record { core = work.core; end = end }) looms done
in_turn stay count lift session k known desk work end looms ready did done parts casting there at f same low r d e slots =
    let both = f.adds at.stands in
    let after : Desk = record { core = work.core; end = end } in
    let acts : DidActs session k desk after = record { stands = told_stands session work end same both.0; adds = both.1; spare = f.spare } in
    let g : HasGone session k desk after = acts_gone session k desk after acts.stands acts.adds in
    let repeats : List ℕ = (plan_of session k).repeats in
    let all : AllDidShift k (length work.end.list - 1) (versions_of session after) repeats looms done =
    all_did_shift session k known desk after work.end.list repeats parts looms ready did done g ([], sym acts.stands.shown ∙ same ∙ sym (append-nil work.end.list)) low r d e in
    let long : length (versions_of session after) ≡ accepted_before (k + 1) after.core.entries + 1 = numbered_length session.design 0 _ ∙ versions_now count session k desk after looms at g in
    let first : length work.end.list - 1 ≡ accepted_before (k + 1) after.core.entries = omega (arith, ap length same, ap length acts.stands.shown, long) in
    let rises : accepted_before k after.core.entries ≤ accepted_before (k + 1) after.core.entries = accepted_rises k (k + 1) after.core.entries (omega arith) in
    record {
      is_done = shift_leaves stay count lift session k desk after looms done true casting there at acts
          (all_older k (length work.end.list - 1) (accepted_before k after.core.entries) (versions_of session after) repeats looms done (omega (arith, first, rises)) all);
      newest = new_newest session k (length work.end.list - 1) desk after looms done repeats at first (omega (arith, long, first)) all;
      plain = ap (map (named_act session)) slots.are ∙ map-append (named_act session) desk.core.entries slots.new
          ∙ ap (λ l. map (named_act session) desk.core.entries ++ l) (named_plan session k slots.new slots.named);
    }

-- memory was refused to the foreman
pub broken_off : (session : Session) (k : ℕ) (desk after : Desk) (looms : List LoomValue) → IsAtShift session k desk looms → Directs session k desk after false → IsShort session k desk after looms looms
broken_off session k desk after looms at d = idle_left session k desk after looms at (d.adds at.stands)
