-- A shift in which memory was refused.
use Rattle.std.proofs.Common.{◌≡◌, ◌+◌, ◌-◌, ◌<◌, ◌≤◌, ℕ, Bool, true, false, MatchBool, List, [], ◌∷◌, ◌++◌, length, get_or, map, refl, sym, ap, subst, ◌∙◌, arith, append-nil}
use Rattle.std.specs.Prelude.{All, slice_index}
use Rattle.std.specs.List.Sorted.{IsNonDecreasing}
use Rattle.std.proofs.lemmas.List.{map-append}
use Rattle.std.proofs.lemmas.List.Elements.{All-map}
use Rattle.casting_out.specs.Castings.{IsCasting}
use Rattle.version_journal.specs.declared.entry.Entry.{Entry}
use Rattle.version_journal.specs.declared.run_log.Repeat.{Repeat}
use Rattle.session_file.specs.declared.session.Session.{Session}
use Rattle.shed_publish.specs.Ends.{DeskValue}
use Rattle.shed_publish.specs.declared.newest.Version.{Version}
use Rattle.studio_core.specs.Cores.{IsCore}
use Rattle.loom_threads.specs.Looms.{LoomValue}
use Rattle.shift_run.specs.Desks.{AddsSome, Stands, versions_of}
use Rattle.shift_model.specs.Logs.{IsCurrent, IsLoomLog, accepted_before}
use Rattle.shift_model.specs.Plans.{plan_of}
use Rattle.shift_run.specs.Runs.{AddsSomeRepeats, GoesOnFrom, IsAtShift, IsCutShort, log_of}
use Rattle.shift_run.specs.inner.Adds.{AddsEntries, AddsRepeats}
use Rattle.shift_run.specs.inner.Foreman.{Directs, IsBroken, acts_of_shift}
use Rattle.shift_run.specs.inner.Looms.{AllCanFinish, AllDid, AllDidShift, AllFinished, AllReadied}
use Rattle.shift_run.specs.inner.Shifts.{IsShort, Leaves}
use Rattle.shift_run.specs.declared.desk.Desk.{Desk}
use Rattle.shift_run.specs.declared.looms.Part.{Part}
use Rattle.shift_run.proofs.Adding.{accepted_kept, accepted_rises, shifts_low}
use Rattle.shift_run.specs.inner.Laws.{CardsLift, VersionsCount, VersionsStay}
use Rattle.shift_model.proofs.lemmas.Lists.{rises}
use Rattle.shift_run.proofs.Telling.{can_finish_all}
use Rattle.shift_run.proofs.Shifts.{HasGone, acts_gone, all_did_shift, all_older, broken_gone, first_is, have_read, log_goes_on, loom_adds, looms_are, repeats_at, shift_more, told_first, versions_now}

-- the versions of the shifts before
old_low : (session : Session) (entries : List Entry) (k loom : ℕ) (repeats : List Repeat) → IsLoomLog session entries k loom repeats
    → All (λ (r : Repeat). r.version ≤ accepted_before k entries) repeats
old_low session entries k loom repeats l i d h =
    let r : Repeat = get_or repeats i d in
    let c : IsCurrent entries r = l.current i d h in
    let low : r.shift < k = shifts_low session entries k loom repeats l i d h in
    omega (arith, c.no_newer, accepted_rises (r.shift + 1) k entries (omega arith))

-- the repeats of one loom
some_added : (session : Session) (k j : ℕ) (old after new : List Entry) (before repeats : List Repeat) → after ≡ old ++ new → All (λ (e : Entry). e.shift ≡ k) new → IsLoomLog session old k j before
    → AddsRepeats session k j (accepted_before k after) (accepted_before (k + 1) after) after before repeats
    → AddsSomeRepeats session k j (accepted_before k after) (accepted_before (k + 1) after) after before repeats
some_added session k j old after new before repeats are of_shift l a = record {
  new = a.new;
  are = a.are;
  of_shift = a.of_shift;
  few = omega (arith, a.count);
  versions_rise = subst (λ (x : List ℕ). IsNonDecreasing x) (sym (ap (map (λ (r : Repeat). r.version)) a.are ∙ map-append (λ (r : Repeat). r.version) before a.new))
      (rises (map (λ (r : Repeat). r.version) before) (map (λ (r : Repeat). r.version) a.new) (accepted_before k after) l.versions_rise a.versions_rise
      (All-map (λ n. n ≤ accepted_before k after) (λ (r : Repeat). r.version) before
      (subst (λ (n : ℕ). All (λ (r : Repeat). r.version ≤ n) before) (sym (accepted_kept k k old after new are of_shift (omega arith))) (old_low session old k j before l)))
      (All-map (λ n. accepted_before k after ≤ n) (λ (r : Repeat). r.version) a.new a.no_older));
  no_older = a.no_older;
  no_newer = a.no_newer;
  woven = a.woven;
}

-- acts of the shift were added, and the looms did their parts
pub cut_short : VersionsStay → VersionsCount → CardsLift → (session : Session) (k : ℕ) (desk after : Desk) (looms done : List LoomValue) → IsCasting session.design.casting
    → IsAtShift session k desk looms → IsBroken session k desk.core.entries after
    → AllDidShift k (accepted_before k after.core.entries) (versions_of session after) (plan_of session k).repeats looms done → IsCutShort session k desk after looms done
cut_short stay count lift session k desk after looms done casting at b d =
    let g : HasGone session k desk after = broken_gone session k desk after b in
    let long = versions_now count session k desk after looms at g in
    record {
      holds = b.holds;
      nearly = b.nearly;
      entries = b.adds;
      as_many = d.looms;
      repeats = λ j x h.
          let many : ℕ = slice_index (plan_of session k).repeats j in
          let log : IsLoomLog session desk.core.entries k j (get_or looms j x).repeats =
          subst (λ (l : List Repeat). IsLoomLog session desk.core.entries k j l) (repeats_at looms j x h) (at.legal.repeats j (omega (arith, h, looms_are session k desk looms at))) in
          some_added session k j desk.core.entries after.core.entries g.new (get_or looms j x).repeats (get_or done j x).repeats g.are g.of_shift log
          (loom_adds lift session k j (accepted_before k after.core.entries) (accepted_before (k + 1) after.core.entries) after.core.entries (get_or looms j x) (get_or done j x)
          casting (at.each j x h).kind long (d.each j x h));
    }

-- nothing of the shift was done
nothing_added : (session : Session) (k : ℕ) (desk : Desk) → Stands session desk → AddsSome session k desk.core.entries desk.core.entries
nothing_added session k desk stands = record {
  new = [];
  are = sym (append-nil desk.core.entries);
  of_shift = λ i d h. absurd (omega arith);
  done = [];
  within = λ p. omega arith;
  under = record { painters = λ i d h. absurd (omega arith); numbers = λ p h. refl };
  replied = stands.holds.replied;
}

-- a loom that did nothing
idle : (session : Session) (k j first last : ℕ) (entries old : List Entry) (repeats : List Repeat) → IsLoomLog session old k j repeats
    → AddsSomeRepeats session k j first last entries repeats repeats
idle session k j first last entries old repeats log = record {
  new = [];
  are = sym (append-nil repeats);
  of_shift = λ i d h. absurd (omega arith);
  few = omega arith;
  versions_rise = log.versions_rise;
  no_older = λ i d h. absurd (omega arith);
  no_newer = λ i d h. absurd (omega arith);
  woven = λ i d h. absurd (omega arith);
}

-- the looms did nothing
idle_short : (session : Session) (k : ℕ) (desk after : Desk) (looms : List LoomValue) → IsAtShift session k desk looms → IsBroken session k desk.core.entries after
    → IsCutShort session k desk after looms looms
idle_short session k desk after looms at b = record {
  holds = b.holds;
  nearly = b.nearly;
  entries = b.adds;
  as_many = refl;
  repeats = λ j x h.
      let log : IsLoomLog session desk.core.entries k j (get_or looms j x).repeats =
      subst (λ (l : List Repeat). IsLoomLog session desk.core.entries k j l) (repeats_at looms j x h) (at.legal.repeats j (omega (arith, h, looms_are session k desk looms at))) in
      idle session k j (accepted_before k after.core.entries) (accepted_before (k + 1) after.core.entries) after.core.entries desk.core.entries (get_or looms j x).repeats log;
}

nothing_broken : (session : Session) (k : ℕ) (desk : Desk) → Stands session desk → IsBroken session k desk.core.entries desk
nothing_broken session k desk stands = record {
  holds = stands.holds;
  nearly = record { last = []; few = omega arith; shown = sym stands.shown ∙ sym (append-nil desk.end.list) };
  adds = nothing_added session k desk stands;
}

log_grown : (desk after : Desk) (looms : List LoomValue) (new : List Entry) → after.core.entries ≡ desk.core.entries ++ new → GoesOnFrom (log_of desk looms) (log_of after looms)
log_grown desk after looms new are = record {
  entries = (new, are);
  looms = refl;
  repeats = λ j h. ([], sym (append-nil (get_or (map (λ (l : LoomValue). l.repeats) looms) j [])));
}

-- acts of the shift were done, and no repeats
pub idle_left : (session : Session) (k : ℕ) (desk after : Desk) (looms : List LoomValue) → IsAtShift session k desk looms → IsBroken session k desk.core.entries after
    → IsShort session k desk after looms looms
idle_left session k desk after looms at b = record { short = idle_short session k desk after looms at b; log = log_grown desk after looms b.adds.new b.adds.are }

-- nothing was done
pub nothing_left : (session : Session) (k : ℕ) (desk : Desk) (looms : List LoomValue) → IsAtShift session k desk looms → IsShort session k desk desk looms looms
nothing_left session k desk looms at = idle_left session k desk desk looms at (nothing_broken session k desk at.stands)

pub told_stands : (session : Session) (desk : Desk) (told : DeskValue) → told.list ≡ desk.end.list → Stands session desk → Stands session (record { core = desk.core; end = told })
told_stands session desk told same s = record {
  holds = record { design = s.holds.design; at = s.holds.at; replied = s.holds.replied };
  shown = same ∙ s.shown;
}

-- what the foreman leaves where it did all acts
pub record DidActs (session : Session) (k : ℕ) (desk after : Desk) : Type 0 where
  pub stands : Stands session after
  pub adds : AddsEntries session k desk.core.entries after.core.entries
  pub spare : after.core.spare + acts_of_shift session k ≡ desk.core.spare

-- what it leaves, whether it did all acts or memory was refused
abbrev pub DeskLeaves : Session → ℕ → Desk → Desk → Bool → Type 0
DeskLeaves session k desk after all = MatchBool all (DidActs session k desk after) (IsBroken session k desk.core.entries after)

pub desk_leaves : (session : Session) (k : ℕ) (desk : Desk) (told : DeskValue) (after : Desk) (all : Bool) → told.list ≡ desk.end.list → Stands session desk
    → Directs session k (record { core = desk.core; end = told }) after all → DeskLeaves session k desk after all
desk_leaves session k desk told after true same stands d =
    let both = d.adds (told_stands session desk told same stands) in record { stands = both.0; adds = both.1; spare = d.spare }
desk_leaves session k desk told after false same stands d = d.adds (told_stands session desk told same stands)

gone : (session : Session) (k : ℕ) (desk after : Desk) (all : Bool) → DeskLeaves session k desk after all → HasGone session k desk after
gone session k desk after true d = acts_gone session k desk after d.stands d.adds
gone session k desk after false d = broken_gone session k desk after d

-- a shift, from what the foreman and the looms leave
pub shift_leaves : VersionsStay → VersionsCount → CardsLift → (session : Session) (k : ℕ) (desk after : Desk) (looms done : List LoomValue) (all : Bool) → IsCasting session.design.casting
    → k < length session.shifts → IsAtShift session k desk looms → DeskLeaves session k desk after all
    → AllDidShift k (accepted_before k after.core.entries) (versions_of session after) (plan_of session k).repeats looms done → Leaves session k desk after looms done all
shift_leaves stay count lift session k desk after looms done true casting there at d all =
    let g : HasGone session k desk after = acts_gone session k desk after d.stands d.adds in
    let first : ℕ = accepted_before k after.core.entries in
    record {
      at = shift_more stay count lift session k desk after looms done casting there at g d.adds d.stands d.spare all;
      read = have_read k first (versions_of session after) (plan_of session k).repeats looms done all;
      log = log_goes_on session k first (versions_of session after) (plan_of session k).repeats desk after looms done g all;
    }
shift_leaves stay count lift session k desk after looms done false casting there at b all =
    let g : HasGone session k desk after = broken_gone session k desk after b in
    record {
      short = cut_short stay count lift session k desk after looms done casting at b all;
      log = log_goes_on session k (accepted_before k after.core.entries) (versions_of session after) (plan_of session k).repeats desk after looms done g all;
    }

-- a shift whose looms were told before it what was published then
pub leaves : VersionsStay → VersionsCount → CardsLift → (session : Session) (k known : ℕ) (desk after : Desk) (looms ready did done : List LoomValue) (parts : List Part) (all : Bool)
    → IsCasting session.design.casting → k < length session.shifts → IsAtShift session k desk looms → known ≤ length desk.end.list
    → AllReadied desk.end.list parts looms ready → DeskLeaves session k desk after all → AllDid k (plan_of session k).repeats parts ready did
    → AllFinished k known after.core.version after.core.cards after.end.list (plan_of session k).repeats parts did done → Leaves session k desk after looms done all
leaves stay count lift session k known desk after looms ready did done parts all casting there at low r f d e =
    let g : HasGone session k desk after = gone session k desk after all f in
    let first : accepted_before k after.core.entries ≤ length desk.end.list - 1 = omega (arith, first_is count session k desk after looms at g) in
    shift_leaves stay count lift session k desk after looms done all casting there at f
    (all_older k (length desk.end.list - 1) (accepted_before k after.core.entries) (versions_of session after) (plan_of session k).repeats looms done first
    (all_did_shift session k known desk after desk.end.list (plan_of session k).repeats parts looms ready did done g (told_first stay session k desk after at.stands g) low r d e))

directed_design : (session : Session) (k : ℕ) (desk after : Desk) (all : Bool) → Directs session k desk after all → after.core.design ≡ session.design
directed_design session k desk after true d = d.design
directed_design session k desk after false d = d.design

-- the looms' parts can be ended
pub can_end : (session : Session) (k : ℕ) (desk : Desk) (told : DeskValue) (after : Desk) (looms ready did : List LoomValue) (parts : List Part) (list : List Version) (all : Bool) → k < length session.shifts
    → IsAtShift session k desk looms → AllReadied list parts looms ready → Directs session k (record { core = desk.core; end = told }) after all
    → AllDid k (plan_of session k).repeats parts ready did → IsCore after.core → AllCanFinish (plan_of session k).repeats after.core.cards parts did
can_end session k desk told after looms ready did parts list all there at r f d core =
    can_finish_all session k desk after looms ready did parts list there at r d core (directed_design session k (record { core = desk.core; end = told }) after all f)
