-- A shift more of a run.
use Rattle.std.proofs.Common.{◌≡◌, ◌⊎◌, inl, inr, ◌+◌, ◌-◌, ◌*◌, ◌<◌, ◌≤◌, ◌^◌, ℕ, zero, suc, true, false, Some, None, List, [], ◌∷◌, ◌++◌, length, length-append, get_or, map, drop, refl, sym, ap, subst, ◌∙◌, arith, append-nil, sum_by, add-one}
use Rattle.std.specs.Prelude.{All, slice_get, slice_index, slice_index_or}
use Rattle.std.specs.List.Sorted.{IsNonDecreasing}
use Rattle.std.proofs.lemmas.List.{length-map, get_or-map, map-append}
use Rattle.std.proofs.lemmas.List.Elements.{All-append, All-map}
use Rattle.std.proofs.lemmas.List.Sums.{sum_by-drop_more}
use Rattle.std.proofs.lemmas.Option.{slice_get_within}
use Rattle.mill_base.specs.declared.face.Face.{Face}
use Rattle.mill_base.specs.declared.face.Face.TheVariants.{Up}
use Rattle.casting_out.specs.Castings.{IsCasting}
use Rattle.point_paper.specs.Papers.{PaperCells}
use Rattle.draft_model.specs.Cloths.{ClothCells}
use Rattle.draft_model.specs.declared.design.Design.{Design}
use Rattle.card_image.specs.Sets.{CardsValue, cards_of}
use Rattle.version_journal.specs.Journals.{versions}
use Rattle.version_journal.specs.declared.entry.Entry.{Entry}
use Rattle.version_journal.specs.declared.run_log.Repeat.{Repeat}
use Rattle.session_file.specs.Plans.{acts_in}
use Rattle.session_file.specs.declared.session.Session.{Session}
use Rattle.session_file.specs.declared.session.ShiftPlan.{ShiftPlan}
use Rattle.shed_publish.specs.Versions.{IsPrefix}
use Rattle.shed_publish.specs.declared.newest.Version.{Version}
use Rattle.loom_threads.specs.Cuts.{machine_of}
use Rattle.loom_threads.specs.Lifts.{cloth_from}
use Rattle.loom_threads.specs.Looms.{AreOf, IsLoomOf, IsShown, LoomValue, repeats_of, repeat_from}
use Rattle.loom_threads.specs.Woven.{IsWoven, digest_of, lifted, repeat_of}
use Rattle.shift_run.specs.Desks.{Holds, Stands, history_of, numbered, versions_of}
use Rattle.shift_model.specs.Logs.{accepted_before, named_act}
use Rattle.shift_model.specs.Plans.{plan_of}
use Rattle.shift_run.specs.Runs.{AddsSomeRepeats, GoesOnFrom, HaveRead, IsAtShift, IsCutShort, IsLoomAt, log_of, repeats_from}
use Rattle.shift_run.specs.inner.Adds.{AddsEntries, AddsRepeats}
use Rattle.shift_run.specs.inner.Foreman.{IsBroken, acts_of_shift}
use Rattle.shift_run.specs.inner.Looms.{AllDid, AllDidShift, AllFinished, AllReadied, DidShift, part_at}
use Rattle.shift_run.specs.declared.desk.Desk.{Desk}
use Rattle.shift_run.specs.declared.looms.Part.{Part}
use Rattle.shift_run.proofs.Adding.{accepted_kept, accepted_rises, entries_versions, journal_versions, legal_more, named_acts, versions_more}
use Rattle.shift_run.specs.inner.Laws.{CardsLift, VersionsCount, VersionsStay}
use Rattle.shift_model.proofs.lemmas.Lists.{All_mono, All_unmap}
use Rattle.shift_run.proofs.Shown.{numbered_append, numbered_length, paper_of, version_shown}
use Rattle.shift_run.proofs.Weaving.{did_shift}

-- where a desk has come to in a shift, whether all acts of it were done or not
pub record HasGone (session : Session) (k : ℕ) (desk after : Desk) : Type 0 where
  pub new : List Entry
  pub are : after.core.entries ≡ desk.core.entries ++ new
  pub of_shift : All (λ (e : Entry). e.shift ≡ k) new
  pub holds : Holds session after
  pub last : List Version
  pub shown : versions_of session after ≡ after.end.list ++ last

abbrev papers_of : Session → Desk → List PaperCells
papers_of session desk = versions session.design session.opening (named_acts session desk.core.entries)

pub acts_gone : (session : Session) (k : ℕ) (desk after : Desk) → Stands session after → AddsEntries session k desk.core.entries after.core.entries → HasGone session k desk after
acts_gone session k desk after stands a = record {
  new = a.new;
  are = a.are;
  of_shift = a.of_shift;
  holds = stands.holds;
  last = [];
  shown = sym stands.shown ∙ sym (append-nil after.end.list);
}

pub broken_gone : (session : Session) (k : ℕ) (desk after : Desk) → IsBroken session k desk.core.entries after → HasGone session k desk after
broken_gone session k desk after b = record {
  new = b.adds.new;
  are = b.adds.are;
  of_shift = b.adds.of_shift;
  holds = b.holds;
  last = b.nearly.last;
  shown = b.nearly.shown;
}

-- what was told before is what the versions begin with
pub told_first : VersionsStay → (session : Session) (k : ℕ) (desk after : Desk) → Stands session desk → HasGone session k desk after → IsPrefix desk.end.list (versions_of session after)
told_first stay session k desk after stands g =
    let more = versions_more stay session desk.core.entries g.new in (
      numbered session.design (0 + length (papers_of session desk)) more.0,
      ap (numbered session.design 0) (ap (λ es. versions session.design session.opening (named_acts session es)) g.are ∙ more.1)
          ∙ numbered_append session.design 0 (papers_of session desk) more.0
          ∙ ap (λ l. l ++ numbered session.design (0 + length (papers_of session desk)) more.0) (sym stands.shown),
    )

-- the newest version in the list of all
newest_at : (session : Session) (after : Desk) → Holds session after
    → slice_get (versions_of session after) after.core.version ≡ Some (record { version = after.core.version; cards = after.core.cards })
newest_at session after h =
    let c = h.at.current in
    version_shown session.design 0 (papers_of session after) after.core.version c.0 c.1
    ∙ ap (λ n. Some (record { version = n; cards = cards_of session.design c.0 })) (let e : 0 + after.core.version ≡ after.core.version = omega arith in e)
    ∙ ap (λ (x : CardsValue). Some (record { version = after.core.version; cards = x })) (sym (c.2 ∙ ap (λ (d : Design). cards_of d c.0) h.design))

newest_last : (session : Session) (after : Desk) → Holds session after → length (versions_of session after) ≡ after.core.version + 1
newest_last session after h = numbered_length session.design 0 (papers_of session after) ∙ h.at.last

-- each loom's shift, where it was told a list that the versions begin with
pub all_did_shift : (session : Session) (k known : ℕ) (desk after : Desk) (told : List Version) (repeats : List ℕ) (parts : List Part) (looms ready did done : List LoomValue)
    → HasGone session k desk after → IsPrefix told (versions_of session after) → known ≤ length told
    → AllReadied told parts looms ready → AllDid k repeats parts ready did → AllFinished k known after.core.version after.core.cards after.end.list repeats parts did done
    → AllDidShift k (length told - 1) (versions_of session after) repeats looms done
all_did_shift session k known desk after told repeats parts looms ready did done g p low r d f =
    let long : length told ≤ length (versions_of session after) = omega (arith, ap length p.1, length-append told p.0) in
    let last = newest_last session after g.holds in
    record {
      looms = f.looms ∙ d.looms ∙ r.looms;
      each = λ j x h.
          did_shift k (slice_index repeats j) known told after.end.list (versions_of session after) (record { version = after.core.version; cards = after.core.cards }) (part_at parts j)
          (slice_index_or looms j x) (slice_index_or ready j x) (slice_index_or did j x) (slice_index_or done j x)
          (r.each j x h) (d.each j x (omega (arith, h, r.looms))) (f.each j x (omega (arith, h, r.looms, d.looms)))
          p low (g.last, g.shown) (newest_at session after g.holds) last (omega (arith, long, last));
    }

-- an older bound on the versions
older : (k many first low : ℕ) (list : List Version) (before after : LoomValue) → low ≤ first → DidShift k many first list before after → DidShift k many low list before after
older k many first low list before after h d = record {
  new = d.new;
  are = d.are;
  count = d.count;
  same = d.same;
  spare = d.spare;
  woven = record {
    of_shift = d.woven.of_shift;
    versions_rise = d.woven.versions_rise;
    no_older = All_mono (λ (r : Repeat). first ≤ r.version) (λ (r : Repeat). low ≤ r.version) d.new (λ r s. omega (arith, s, h)) d.woven.no_older;
    shown = d.woven.shown;
  };
  read = d.read;
}

pub all_older : (k first low : ℕ) (list : List Version) (repeats : List ℕ) (looms done : List LoomValue) → low ≤ first → AllDidShift k first list repeats looms done → AllDidShift k low list repeats looms done
all_older k first low list repeats looms done h d = record {
  looms = d.looms;
  each = λ j x b. older k (slice_index repeats j) first low list (slice_index_or looms j x) (slice_index_or done j x) h (d.each j x b);
}

-- how many versions there are, counted by the commits that were accepted
versions_before : VersionsCount → (session : Session) (k : ℕ) (desk : Desk) (looms : List LoomValue) → IsAtShift session k desk looms → length desk.end.list ≡ accepted_before k desk.core.entries + 1
versions_before count session k desk looms at =
    ap length at.stands.shown ∙ numbered_length session.design 0 (papers_of session desk) ∙ journal_versions count session desk.core.entries k at.legal.journal

shifts_after : (session : Session) (k : ℕ) (desk after : Desk) (looms : List LoomValue) → IsAtShift session k desk looms → HasGone session k desk after
    → All (λ n. n < k + 1) (map (λ (e : Entry). e.shift) after.core.entries)
shifts_after session k desk after looms at g =
    All-map (λ n. n < k + 1) (λ (e : Entry). e.shift) after.core.entries (subst (λ (es : List Entry). All (λ (e : Entry). e.shift < k + 1) es) (sym g.are)
    (All-append (λ (e : Entry). e.shift < k + 1) desk.core.entries g.new
    (All_mono (λ (e : Entry). e.shift < k) (λ (e : Entry). e.shift < k + 1) desk.core.entries (λ e h. omega arith) (All_unmap (λ (e : Entry). e.shift) desk.core.entries (λ n. n < k) at.legal.journal.shifts.before))
    (All_mono (λ (e : Entry). e.shift ≡ k) (λ (e : Entry). e.shift < k + 1) g.new (λ e h. omega arith) g.of_shift)))

pub versions_now : VersionsCount → (session : Session) (k : ℕ) (desk after : Desk) (looms : List LoomValue) → IsAtShift session k desk looms → HasGone session k desk after
    → length (papers_of session after) ≡ accepted_before (k + 1) after.core.entries + 1
versions_now count session k desk after looms at g = entries_versions count session after.core.entries (k + 1) (shifts_after session k desk after looms at g) g.holds.replied

pub first_is : VersionsCount → (session : Session) (k : ℕ) (desk after : Desk) (looms : List LoomValue) → IsAtShift session k desk looms → HasGone session k desk after
    → length desk.end.list - 1 ≡ accepted_before k after.core.entries
first_is count session k desk after looms at g =
    omega (arith, versions_before count session k desk looms at, accepted_kept k k desk.core.entries after.core.entries g.new g.are g.of_shift (omega arith))

-- a repeat of an entry of the list is woven from a version
woven_of : CardsLift → (session : Session) (j : ℕ) (loom : LoomValue) (papers : List PaperCells) (r : Repeat) → IsCasting session.design.casting → IsLoomOf session j loom
    → IsShown loom (numbered session.design 0 papers) r → IsWoven session.design session.show_rows (slice_index_or session.faces j Up) papers r
woven_of lift session j loom papers r casting kind s =
    let p = paper_of session.design 0 papers r.version (record { version = r.version; cards = s.cards }) s.entry in
    let face : Face = slice_index_or session.faces j Up in
    let cloth : cloth_from loom.machine loom.face s.cards ≡ lifted session.design face p.0 =
    ap (λ m. cloth_from m loom.face s.cards) kind.machine ∙ ap (λ f. cloth_from (machine_of session.design) f s.cards) kind.face
    ∙ ap (cloth_from (machine_of session.design) face) p.2 ∙ lift session.design face p.0 casting in
    let same : r ≡ repeat_of r.shift r.version session.show_rows (lifted session.design face p.0) =
    s.repeat ∙ ap (λ b. repeat_of r.shift r.version b (cloth_from loom.machine loom.face s.cards)) kind.shown ∙ ap (repeat_of r.shift r.version session.show_rows) cloth in
    record { paper = p.0; version = p.1; digest = ap (λ (x : Repeat). x.digest) same; rows = ap (λ (x : Repeat). x.rows) same }

-- what one loom added, as the law on a shift has it
pub loom_adds : CardsLift → (session : Session) (k j first last : ℕ) (entries : List Entry) (before after : LoomValue) → IsCasting session.design.casting → IsLoomOf session j before
    → length (versions session.design session.opening (named_acts session entries)) ≡ last + 1
    → DidShift k (slice_index (plan_of session k).repeats j) first (numbered session.design 0 (versions session.design session.opening (named_acts session entries))) before after
    → AddsRepeats session k j first last entries before.repeats after.repeats
loom_adds lift session k j first last entries before after casting kind long d =
    let papers : List PaperCells = versions session.design session.opening (named_acts session entries) in
    record {
      new = d.new;
      are = d.are;
      of_shift = d.woven.of_shift;
      count = d.count;
      versions_rise = d.woven.versions_rise;
      no_older = d.woven.no_older;
      no_newer = All_mono (IsShown before (numbered session.design 0 papers)) (λ (r : Repeat). r.version ≤ last) d.new
          (λ r s. omega (arith, slice_get_within (numbered session.design 0 papers) r.version (record { version = r.version; cards = s.cards }) s.entry, numbered_length session.design 0 papers, long)) d.woven.shown;
      woven = All_mono (IsShown before (numbered session.design 0 papers)) (IsWoven session.design session.show_rows (slice_index_or session.faces j Up) papers) d.new
          (λ r s. woven_of lift session j before papers r casting kind s) d.woven.shown;
    }

pub no_loom : LoomValue
no_loom = record {
  number = 0;
  machine = record { tie = record { columns = 0; ends = [] }; casting = record { hooks = 0; columns = []; cast_out = [] } };
  picks = 0;
  face = Up;
  shown = false;
  end = None;
  repeats = [];
  spare = 0;
}

pub repeats_at : (looms : List LoomValue) (j : ℕ) (d : LoomValue) → j < length looms → get_or (map (λ (l : LoomValue). l.repeats) looms) j [] ≡ (get_or looms j d).repeats
repeats_at looms j d h = get_or-map (λ (l : LoomValue). l.repeats) looms j d [] h

logged : (looms : List LoomValue) → length (map (λ (l : LoomValue). l.repeats) looms) ≡ length looms
logged looms = length-map looms (λ (l : LoomValue). l.repeats)

-- as many looms as the session has
pub looms_are : (session : Session) (k : ℕ) (desk : Desk) (looms : List LoomValue) → IsAtShift session k desk looms → length looms ≡ session.looms
looms_are session k desk looms at = sym (logged looms) ∙ at.legal.looms

-- the room that a shift takes of a loom, and of the desk
pub repeats_split : (session : Session) (k j : ℕ) → k < length session.shifts → repeats_from session k j ≡ slice_index (plan_of session k).repeats j + repeats_from session (k + 1) j
repeats_split session k j there = sum_by-drop_more (λ (plan : ShiftPlan). slice_index plan.repeats j) session.shifts k (record { repeats = []; painters = [] }) there

pub acts_split : (session : Session) (k : ℕ) → k < length session.shifts → acts_in (drop k session.shifts) ≡ acts_of_shift session k + acts_in (drop (k + 1) session.shifts)
acts_split session k there = sum_by-drop_more (λ (plan : ShiftPlan). sum_by length plan.painters) session.shifts k (record { repeats = []; painters = [] }) there

-- a loom after its shift
loom_more : (session : Session) (k j first : ℕ) (list : List Version) (before after : LoomValue) → k < length session.shifts → IsLoomAt session k j before
    → DidShift k (slice_index (plan_of session k).repeats j) first list before after → IsLoomAt session (k + 1) j after
loom_more session k j first list before after there at d = record {
  kind = record {
    numbered = ap (λ (l : LoomValue). l.number) d.same ∙ at.kind.numbered;
    machine = ap (λ (l : LoomValue). l.machine) d.same ∙ at.kind.machine;
    picks = ap (λ (l : LoomValue). l.picks) d.same ∙ at.kind.picks;
    face = ap (λ (l : LoomValue). l.face) d.same ∙ at.kind.face;
    shown = ap (λ (l : LoomValue). l.shown) d.same ∙ at.kind.shown;
  };
  whole = omega (arith, at.whole, d.spare, d.count, ap length d.are, length-append before.repeats d.new);
  room = omega (arith, at.room, d.spare, repeats_split session k j there);
}

-- the log goes on from what it was
pub log_goes_on : (session : Session) (k first : ℕ) (list : List Version) (repeats : List ℕ) (desk after : Desk) (looms done : List LoomValue) → HasGone session k desk after
    → AllDidShift k first list repeats looms done → GoesOnFrom (log_of desk looms) (log_of after done)
log_goes_on session k first list repeats desk after looms done g d = record {
  entries = (g.new, g.are);
  looms = logged done ∙ d.looms ∙ sym (logged looms);
  repeats = λ j h.
      let here : j < length looms = omega (arith, h, logged looms) in
      let one = d.each j no_loom here in
      (one.new, repeats_at done j no_loom (omega (arith, here, d.looms)) ∙ one.are ∙ ap (λ l. l ++ one.new) (sym (repeats_at looms j no_loom here)));
}

pub have_read : (k first : ℕ) (list : List Version) (repeats : List ℕ) (looms done : List LoomValue) → AllDidShift k first list repeats looms done → HaveRead repeats looms done
have_read k first list repeats looms done d = record { each = λ j x h. (d.each j x h).read }

-- a shift more
pub shift_more : VersionsStay → VersionsCount → CardsLift → (session : Session) (k : ℕ) (desk after : Desk) (looms done : List LoomValue) → IsCasting session.design.casting
    → k < length session.shifts → IsAtShift session k desk looms → HasGone session k desk after → AddsEntries session k desk.core.entries after.core.entries → Stands session after
    → after.core.spare + acts_of_shift session k ≡ desk.core.spare
    → AllDidShift k (accepted_before k after.core.entries) (versions_of session after) (plan_of session k).repeats looms done → IsAtShift session (k + 1) after done
shift_more stay count lift session k desk after looms done casting there at g adds stands spare d =
    let first : ℕ = accepted_before k after.core.entries in
    let last : ℕ = accepted_before (k + 1) after.core.entries in
    let long = versions_now count session k desk after looms at g in
    record {
      legal = legal_more stay session k (log_of desk looms) (log_of after done) at.legal (record {
        entries = adds;
        looms = logged done ∙ d.looms ∙ sym (logged looms);
        repeats = λ j h.
            let here : j < length looms = omega (arith, h, looms_are session k desk looms at) in
            let one : AddsRepeats session k j first last after.core.entries (get_or looms j no_loom).repeats (get_or done j no_loom).repeats =
            loom_adds lift session k j first last after.core.entries (get_or looms j no_loom) (get_or done j no_loom) casting (at.each j no_loom here).kind long (d.each j no_loom here) in
            subst (λ (x : List Repeat). AddsRepeats session k j first last after.core.entries x (get_or (map (λ (l : LoomValue). l.repeats) done) j [])) (sym (repeats_at looms j no_loom here))
            (subst (λ (x : List Repeat). AddsRepeats session k j first last after.core.entries (get_or looms j no_loom).repeats x) (sym (repeats_at done j no_loom (omega (arith, here, d.looms)))) one);
      });
      stands = stands;
      room = omega (arith, at.room, spare, acts_split session k there);
      each = λ j x h.
          let here : j < length looms = omega (arith, h, d.looms) in
          loom_more session k j first (versions_of session after) (get_or looms j x) (get_or done j x) there (at.each j x here) (d.each j x here);
    }
