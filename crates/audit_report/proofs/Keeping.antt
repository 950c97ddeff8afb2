-- The numbers that are kept stay those of the state.
use Rattle.std.proofs.Common.{◌≡◌, ◌≢◌, ◌⊎◌, inl, inr, ◌+◌, ◌<◌, ◌≤◌, ℕ, zero, suc, Bool, true, false, List, [], ◌∷◌, ◌++◌, length, length-append, get_or, set, refl, sym, ap, subst, ◌∙◌, append_assoc, append-nil, arith}
use Rattle.std.proofs.lemmas.Bool.{cases_eq}
use Rattle.std.proofs.lemmas.List.{length-set, get_or-set_same, get_or-set_other}
use Rattle.std.specs.Prelude.{All, Option, Some, None, replicate, slice_get, slice_index}
use Rattle.point_paper.specs.Papers.{PaperCells}
use Rattle.draft_model.specs.Designs.{IsPaperOf}
use Rattle.draft_model.specs.declared.design.Design.{Design}
use Rattle.version_journal.specs.Journals.{History, paper_after, versions}
use Rattle.version_journal.specs.declared.entry.Entry.{Entry}
use Rattle.version_journal.specs.declared.entry.Reply.{Reply}
use Rattle.version_journal.specs.declared.entry.Reply.TheVariants.{Painted, Accepted, Refused}
use Rattle.version_journal.specs.declared.run_log.Repeat.{Repeat}
use Rattle.session_file.specs.Plans.{Fits}
use Rattle.session_file.specs.declared.session.Session.{Session}
use Rattle.shift_model.specs.Logs.{accepted_before, named_act, numbers_of_painter}
use Rattle.shift_model.specs.Plans.{plan_of}
use Rattle.audit_model.specs.States.{CanBegin, CanDo, CanWeave, Part, State, done_of, entries_of, go, history_of, named_acts, painters_of, start, versions_of, woven_of}
use Rattle.audit_model.specs.States.Move.{Do, Weave, Begin, End}
use Rattle.audit_model.specs.Lines.{design_line, first_line, shift_head}
use Rattle.audit_model.specs.Reads.{Reaches}
use Rattle.audit_model.proofs.Starting.{read_start}
use Rattle.audit_model.proofs.Adding.{accepted_append, accepted_none}
use Rattle.audit_model.proofs.Basics.{at_replicate, length_replicate}
use Rattle.audit_model.proofs.Keeping.{not_both, numbers_same, numbers_other, versions_counted}
use Rattle.audit_report.specs.Checkers.{AddsDigests, AreDigests, AreOfVersions, Holds, IsLeast, KeepsFor, coming_of, state_of}
use Rattle.audit_report.specs.Papers.{paper_by, versions_by}
use Rattle.audit_report.specs.declared.checker.Checker.{Checker}
use Rattle.audit_report.specs.declared.digests.Digests.{Digests}
use Rattle.audit_report.proofs.Histories.{done_more, step_by}

abbrev value_or : {X : Type 0} → X → Option X → X
value_or d None = d
value_or d (Some a) = a

abbrev is_there : {X : Type 0} → Option X → Bool
is_there None = false
is_there (Some a) = true

pub not_some : {X : Type 0} (x : X) → ◌≡◌ {A = Option X} None (Some x) → ⊥
not_some x h = not_both false refl (ap is_there h)

get_snoc : {X : Type 0} (xs : List X) (y x : X) (k : ℕ) → slice_get (xs ++ y ∷ []) k ≡ Some x → (slice_get xs k ≡ Some x) × (k < length xs) ⊎ (k ≡ length xs) × (y ≡ x)
get_snoc [] y x zero h = inr (refl, ap (value_or y) h)
get_snoc [] y x (suc k) h = absurd (not_some x h)
get_snoc (z ∷ xs) y x zero h = inl (h, omega arith)
get_snoc (z ∷ xs) y x (suc k) h = by (get_snoc xs y x k h) where
  by : (slice_get xs k ≡ Some x) × (k < length xs) ⊎ (k ≡ length xs) × (y ≡ x) → (slice_get (z ∷ xs) (suc k) ≡ Some x) × (suc k < length (z ∷ xs)) ⊎ (suc k ≡ length (z ∷ xs)) × (y ≡ x)
  by (inl (a, b)) = inl (a, omega (arith, b))
  by (inr (a, b)) = inr (ap suc a, b)

digested_snoc : (design : Design) (versions : List PaperCells) (digests : List Digests) (paper : PaperCells) (d : Digests) → AreOfVersions design versions digests → AreDigests design paper d
    → AreOfVersions design (versions ++ paper ∷ []) (digests ++ d ∷ [])
digested_snoc design versions digests paper d old are = record {
  count = omega (arith, old.count, length-append versions (paper ∷ []), length-append digests (d ∷ []));
  each = λ k p e a b. by k p e (get_snoc versions paper p k a) (get_snoc digests d e k b);
} where
  by : (k : ℕ) (p : PaperCells) (e : Digests) → (slice_get versions k ≡ Some p) × (k < length versions) ⊎ (k ≡ length versions) × (paper ≡ p)
      → (slice_get digests k ≡ Some e) × (k < length digests) ⊎ (k ≡ length digests) × (d ≡ e) → AreDigests design p e
  by k p e (inl (a, x)) (inl (b, y)) = old.each k p e a b
  by k p e (inl (a, x)) (inr (b, y)) = absurd (omega (arith, x, b, old.count))
  by k p e (inr (a, x)) (inl (b, y)) = absurd (omega (arith, y, a, old.count))
  by k p e (inr (a, x)) (inr (b, y)) = subst (λ (q : PaperCells). AreDigests design q e) x (subst (λ (c : Digests). AreDigests design paper c) y are)

digested_more : (design : Design) (versions : List PaperCells) (paper : PaperCells) (reply : Reply) (old new : List Digests) → AreOfVersions design versions old → AddsDigests design paper reply old new
    → AreOfVersions design (versions_by reply versions paper) new
digested_more design versions paper Painted old new was adds = subst (λ (ds : List Digests). AreOfVersions design versions ds) (sym (adds.same refl)) was
digested_more design versions paper (Refused float) old new was adds = subst (λ (ds : List Digests). AreOfVersions design versions ds) (sym (adds.same refl)) was
digested_more design versions paper (Accepted n) old new was adds =
    let m = adds.more refl in
    subst (λ (ds : List Digests). AreOfVersions design (versions ++ paper ∷ []) ds) (sym m.2) (digested_snoc design versions old paper m.0 was m.1)

-- the list of counts with one more
count_same : (done : List ℕ) (p n q : ℕ) → p < length done → p ≡ q → slice_index (set done p n) q ≡ n
count_same done p n q there same = sym (ap (slice_index (set done p n)) same) ∙ get_or-set_same done p n 0 there

accepted_same : (session : Session) (s : State) (e : Entry) → e.shift ≡ s.shift → accepted_before s.shift (entries_of (go session s (Do e))) ≡ accepted_before s.shift (entries_of s)
accepted_same session s e is = omega (
  arith,
  ap (accepted_before s.shift) (sym (append_assoc s.before.entries s.new (e ∷ []))),
  accepted_append s.shift (s.before.entries ++ s.new) (e ∷ []),
  accepted_none s.shift (e ∷ []) (λ k d l. at k d l),
) where
  at : (k : ℕ) (d : Entry) → k < length (e ∷ []) → s.shift ≤ (get_or (e ∷ []) k d).shift
  at zero d l = omega (arith, is)
  at (suc k) d l = absurd (omega (arith, l))

pub do_keeps : (session : Session) (s : State) (e : Entry) (done least : List ℕ) (paper now : PaperCells) (digests more : List Digests) (n : ℕ)
    → KeepsFor session s done least paper digests → Part session s → CanDo session s e → n ≡ slice_index done e.painter
    → now ≡ paper_by e.reply (named_act session e) paper → IsPaperOf session.design now → AddsDigests session.design now e.reply digests more
    → KeepsFor session (go session s (Do e)) (set done e.painter (n + 1)) least now more
do_keeps session s e done least paper now digests more n k p can count painted fits adds =
    let h = history_of session s in
    let does = step_by session.design h (named_act session e) e.reply can.reply in
    let there : e.painter < length done = omega (arith, can.painter, k.painters) in
    record {
      painters = length-set done e.painter (n + 1) ∙ k.painters;
      counts = λ q l. by q l (cases_eq e.painter q);
      looms = k.looms;
      lowest = λ loom l. let old = k.lowest loom l in record {
        up = λ v b. let u = old.up v b in (omega (arith, u.0, accepted_same session s e can.shift), u.1);
        down = λ v a b. old.down v (omega (arith, a, accepted_same session s e can.shift)) b;
      };
      present = painted ∙ ap (paper_by e.reply (named_act session e)) k.present ∙ sym (ap (λ (x : History). x.paper) (done_more session s e) ∙ does.paper);
      of_design = fits;
      of_versions = subst (λ (vs : List PaperCells). AreOfVersions session.design vs more) (sym (ap (λ (x : History). x.versions) (done_more session s e) ∙ does.versions))
          (subst (λ (q : PaperCells). AreOfVersions session.design (versions_by e.reply (versions_of session s) q) more) k.present
          (digested_more session.design (versions_of session s) paper e.reply digests more k.of_versions (same_paper e.reply adds painted)));
    } where
      by : (q : ℕ) → q < painters_of session s → (e.painter ≡ q) ⊎ (e.painter ≢ q) → slice_index (set done e.painter (n + 1)) q ≡ done_of (go session s (Do e)) q
      by q l (inl is) =
          let here : slice_index done e.painter ≡ done_of s q = ap (slice_index done) is ∙ k.counts q l in
          omega (
            arith,
            count_same done e.painter (n + 1) q (omega (arith, can.painter, k.painters)) is,
            here,
            count,
            ap length (numbers_same q s.new e is),
            length-append (numbers_of_painter q s.new) (e.number ∷ []),
          )
      by q l (inr other) = omega (arith, get_or-set_other done e.painter q (n + 1) 0 (λ x. other (sym x)), k.counts q l, ap length (numbers_other q s.new e other))

      same_paper : (r : Reply) → AddsDigests session.design now r digests more → now ≡ paper_by r (named_act session e) paper → AddsDigests session.design paper r digests more
      same_paper Painted a b = record { same = a.same; more = λ x. absurd (not_both false refl x) }
      same_paper (Refused float) a b = subst (λ (q : PaperCells). AddsDigests session.design q (Refused float) digests more) b a
      same_paper (Accepted v) a b = subst (λ (q : PaperCells). AddsDigests session.design q (Accepted v) digests more) b a

snoc_all : (xs : List Repeat) (r : Repeat) (v : ℕ) → All (λ (x : Repeat). x.version ≤ v) xs → r.version ≤ v → All (λ (x : Repeat). x.version ≤ v) (xs ++ r ∷ [])
snoc_all [] r v all h zero d l = h
snoc_all [] r v all h (suc k) d l = absurd (omega (arith, l))
snoc_all (x ∷ xs) r v all h zero d l = all 0 x (omega arith)
snoc_all (x ∷ xs) r v all h (suc k) d l = snoc_all xs r v (λ i c b. all (suc i) c (omega (arith, b))) h k d (omega (arith, l))

at_end : (xs : List Repeat) (r : Repeat) (v : ℕ) → All (λ (x : Repeat). x.version ≤ v) (xs ++ r ∷ []) → r.version ≤ v
at_end [] r v all = all 0 r (omega arith)
at_end (x ∷ xs) r v all = at_end xs r v (λ i c b. all (suc i) c (omega (arith, b)))

pub weave_keeps : (session : Session) (s : State) (loom : ℕ) (r : Repeat) (done least : List ℕ) (paper : PaperCells) (digests : List Digests)
    → KeepsFor session s done least paper digests → Part session s → CanWeave session s loom r
    → KeepsFor session (go session s (Weave loom r)) done (set least loom r.version) paper digests
weave_keeps session s loom r done least paper digests k p can = record {
  painters = k.painters;
  counts = k.counts;
  looms = length-set least loom r.version ∙ k.looms;
  lowest = λ j l. by j l (cases_eq j loom);
  present = k.present;
  of_design = k.of_design;
  of_versions = k.of_versions;
} where
  there : loom < length least
  there = omega (arith, can.there, k.looms)

  here : woven_of (go session s (Weave loom r)) loom ≡ woven_of s loom ++ r ∷ []
  here = get_or-set_same s.woven loom (woven_of s loom ++ r ∷ []) [] (omega (arith, can.there, p.looms))

  by : (j : ℕ) → j < session.looms → (j ≡ loom) ⊎ (j ≢ loom) → IsLeast session (go session s (Weave loom r)) (set least loom r.version) j
  by j l (inl is) = subst (λ i. IsLeast session (go session s (Weave loom r)) (set least loom r.version) i) (sym is) (record {
    up = λ v b.
        let low : r.version ≤ v = omega (arith, b, get_or-set_same least loom r.version 0 there) in
        let u = (k.lowest loom can.there).up v (omega (arith, (k.lowest loom can.there).down r.version can.no_older can.rises, low)) in
        (u.0, subst (λ (ws : List Repeat). All (λ (x : Repeat). x.version ≤ v) ws) (sym here) (snoc_all (woven_of s loom) r v u.1 low));
    down = λ v a b. omega (arith, get_or-set_same least loom r.version 0 there, at_end (woven_of s loom) r v (subst (λ (ws : List Repeat). All (λ (x : Repeat). x.version ≤ v) ws) here b));
  })
  by j l (inr other) =
      let same : woven_of (go session s (Weave loom r)) j ≡ woven_of s j = get_or-set_other s.woven loom j (woven_of s loom ++ r ∷ []) [] other in
      let value : slice_index (set least loom r.version) j ≡ slice_index least j = get_or-set_other least loom j r.version 0 other in
      record {
        up = λ v b. let u = (k.lowest j l).up v (omega (arith, b, value)) in (u.0, subst (λ (ws : List Repeat). All (λ (x : Repeat). x.version ≤ v) ws) (sym same) u.1);
        down = λ v a b. omega (arith, value, (k.lowest j l).down v a (subst (λ (ws : List Repeat). All (λ (x : Repeat). x.version ≤ v) ws) same b));
      }

no_items : (xs : List Repeat) (P : Repeat → Type 0) → xs ≡ [] → All P xs
no_items xs P none = subst (λ (ws : List Repeat). All P ws) (sym none) (λ k d l. absurd (omega (arith, l)))

pub begin_keeps : (session : Session) (s : State) (done least : List ℕ) (paper : PaperCells) (digests : List Digests) (newest : ℕ)
    → KeepsFor session s done least paper digests → Part session s → CanBegin session s → newest + 1 ≡ length digests
    → KeepsFor session (go session s Begin) (replicate (length (plan_of session (s.shift + 1)).painters) 0) (replicate session.looms newest) paper digests
begin_keeps session s done least paper digests newest k p can is = record {
  painters = length_replicate n 0;
  counts = λ q l. at_replicate {X = ℕ} n q 0 0 l;
  looms = length_replicate session.looms newest;
  lowest = λ loom l.
      let value : slice_index (replicate session.looms newest) loom ≡ newest = at_replicate session.looms loom newest 0 l in
      let count : accepted_before (s.shift + 1) (entries_of (go session s Begin)) ≡ newest = omega (arith, ap (accepted_before (s.shift + 1)) same, versions_counted session s p, k.of_versions.count, is) in
      record {
        up = λ v b. (omega (arith, value, count, b), no_items (woven_of (go session s Begin) loom) (λ (x : Repeat). x.version ≤ v) (at_replicate session.looms loom [] [] l));
        down = λ v a b. omega (arith, value, count, a);
      };
  present = k.present ∙ ap (λ es. paper_after session.design session.opening (named_acts session es)) (sym same);
  of_design = k.of_design;
  of_versions = subst (λ (es : List Entry). AreOfVersions session.design (versions session.design session.opening (named_acts session es)) digests) (sym same) k.of_versions;
} where
  n : ℕ
  n = length (plan_of session (s.shift + 1)).painters

  same : entries_of (go session s Begin) ≡ entries_of s
  same = append-nil (entries_of s)

pub start_keeps : (session : Session) (d : Digests) → Fits session → AreDigests session.design session.opening d
    → KeepsFor session (start session) (replicate (length (plan_of session 0).painters) 0) (replicate session.looms 0) session.opening (d ∷ [])
start_keeps session d fits are = record {
  painters = length_replicate n 0;
  counts = λ q l. at_replicate {X = ℕ} n q 0 0 l;
  looms = length_replicate session.looms 0;
  lowest = λ loom l. record {
    up = λ v b. (omega arith, no_items (woven_of (start session) loom) (λ (x : Repeat). x.version ≤ v) (at_replicate session.looms loom [] [] l));
    down = λ v a b. omega (arith, at_replicate {X = ℕ} session.looms loom 0 0 l);
  };
  present = refl;
  of_design = fits.opening;
  of_versions = digested_snoc session.design [] [] session.opening d (record { count = refl; each = λ k p e a b. absurd (none_is p k a) }) are;
} where
  n : ℕ
  n = length (plan_of session 0).painters

  none_is : (p : PaperCells) (k : ℕ) → ◌≡◌ {A = Option PaperCells} (slice_get [] k) (Some p) → ⊥
  none_is p zero a = not_some p a
  none_is p (suc k) a = not_some p a

-- the same, of a state and numbers that are equal to those
pub does_keep : (session : Session) (s t : State) (e : Entry) (done least next : List ℕ) (paper now : PaperCells) (digests more : List Digests)
    → KeepsFor session s done least paper digests → Part session s → CanDo session s e
    → now ≡ paper_by e.reply (named_act session e) paper → IsPaperOf session.design now → AddsDigests session.design now e.reply digests more
    → t ≡ go session s (Do e) → next ≡ set done e.painter e.number → KeepsFor session t next least now more
does_keep session s t e done least next paper now digests more k p can painted fits adds at is =
    let n = done_of s e.painter in
    subst (λ (x : State). KeepsFor session x next least now more) (sym at)
    (subst (λ (l : List ℕ). KeepsFor session (go session s (Do e)) l least now more) (sym (is ∙ ap (set done e.painter) can.number))
    (do_keeps session s e done least paper now digests more n k p can (sym (k.counts e.painter can.painter)) painted fits adds))

pub weaves_keep : (session : Session) (s t : State) (loom : ℕ) (r : Repeat) (done least next : List ℕ) (paper : PaperCells) (digests : List Digests)
    → KeepsFor session s done least paper digests → Part session s → CanWeave session s loom r
    → t ≡ go session s (Weave loom r) → next ≡ set least loom r.version → KeepsFor session t done next paper digests
weaves_keep session s t loom r done least next paper digests k p can at is =
    subst (λ (x : State). KeepsFor session x done next paper digests) (sym at)
    (subst (λ (l : List ℕ). KeepsFor session (go session s (Weave loom r)) done l paper digests) (sym is) (weave_keeps session s loom r done least paper digests k p can))

pub begins_keep : (session : Session) (s t : State) (done least counts lows : List ℕ) (paper : PaperCells) (digests : List Digests) (newest : ℕ)
    → KeepsFor session s done least paper digests → Part session s → CanBegin session s → newest + 1 ≡ length digests
    → t ≡ go session s Begin → counts ≡ replicate (length (plan_of session (s.shift + 1)).painters) 0 → lows ≡ replicate session.looms newest → KeepsFor session t counts lows paper digests
begins_keep session s t done least counts lows paper digests newest k p can is at a b =
    subst (λ (x : State). KeepsFor session x counts lows paper digests) (sym at)
    (subst (λ (l : List ℕ). KeepsFor session (go session s Begin) l lows paper digests) (sym a)
    (subst (λ (l : List ℕ). KeepsFor session (go session s Begin) (replicate (length (plan_of session (s.shift + 1)).painters) 0) l paper digests) (sym b)
    (begin_keeps session s done least paper digests newest k p can is)))

pub end_keeps : (session : Session) (s : State) (done least : List ℕ) (paper : PaperCells) (digests : List Digests)
    → KeepsFor session s done least paper digests → KeepsFor session (go session s End) done least paper digests
end_keeps session s done least paper digests k = record {
  painters = k.painters;
  counts = k.counts;
  looms = k.looms;
  lowest = λ loom l. record { up = (k.lowest loom l).up; down = (k.lowest loom l).down };
  present = k.present;
  of_design = k.of_design;
  of_versions = k.of_versions;
}

-- before the first line
pub starts : (session : Session) (checker : Checker) (d : Digests) → Fits session → checker.shift ≡ 0 → checker.ended ≡ false → checker.before.items ≡ [] → checker.woven_before.items ≡ replicate session.looms []
    → checker.recent.items ≡ [] → checker.woven.items ≡ replicate session.looms [] → checker.done.items ≡ replicate (length (plan_of session 0).painters) 0
    → checker.least.items ≡ replicate session.looms 0 → checker.paper ≡ session.opening → checker.digests.items ≡ d ∷ [] → AreDigests session.design session.opening d
    → coming_of checker ≡ first_line ∷ design_line session ∷ shift_head 0 ∷ [] → Holds session checker []
starts session checker d fits shift ended before old new woven done least paper digests are coming =
    let s : state_of checker ≡ start session = all_same checker.shift checker.ended checker.before.items checker.recent.items checker.woven_before.items checker.woven.items shift ended before old new woven in
    record {
      reached = subst (λ (ls : List (List ℕ)). Reaches session [] (state_of checker) ls) (sym coming)
          (subst (λ (x : State). Reaches session [] x (first_line ∷ design_line session ∷ shift_head 0 ∷ [])) (sym s) (read_start session (omega (arith, fits.shifts.0))));
      keeps = subst (λ (x : State). KeepsFor session x checker.done.items checker.least.items checker.paper checker.digests.items) (sym s)
          (subst (λ (l : List ℕ). KeepsFor session (start session) l checker.least.items checker.paper checker.digests.items) (sym done)
          (subst (λ (l : List ℕ). KeepsFor session (start session) (replicate (length (plan_of session 0).painters) 0) l checker.paper checker.digests.items) (sym least)
          (subst (λ (q : PaperCells). KeepsFor session (start session) (replicate (length (plan_of session 0).painters) 0) (replicate session.looms 0) q checker.digests.items) (sym paper)
          (subst (λ (ds : List Digests). KeepsFor session (start session) (replicate (length (plan_of session 0).painters) 0) (replicate session.looms 0) session.opening ds) (sym digests)
          (start_keeps session d fits are)))));
    } where
      with_shift : ℕ → List Entry → List (List Repeat) → List Entry → List (List Repeat) → Bool → State
      with_shift n b o x w e = record { shift = n; before = record { entries = b; looms = o }; new = x; woven = w; ended = e }

      all_same : (n : ℕ) (e : Bool) (b x : List Entry) (o w : List (List Repeat)) → n ≡ 0 → e ≡ false → b ≡ [] → o ≡ replicate session.looms [] → x ≡ [] → w ≡ replicate session.looms []
          → with_shift n b o x w e ≡ start session
      all_same n e b x o w h0 h1 h2 h3 h4 h5 =
          ap (λ i. with_shift i b o x w e) h0 ∙ ap (λ i. with_shift 0 b o x w i) h1 ∙ ap (λ i. with_shift 0 i o x w false) h2
          ∙ ap (λ i. with_shift 0 [] i x w false) h3 ∙ ap (λ i. with_shift 0 [] (replicate session.looms []) i w false) h4
          ∙ ap (λ i. with_shift 0 [] (replicate session.looms []) [] i false) h5

pub weaves_keep_all : (session : Session) (s t : State) (loom : ℕ) (r : Repeat) (done more least next : List ℕ) (paper now : PaperCells) (digests others : List Digests)
    → KeepsFor session s done least paper digests → Part session s → CanWeave session s loom r
    → t ≡ go session s (Weave loom r) → next ≡ set least loom r.version → more ≡ done → now ≡ paper → others ≡ digests → KeepsFor session t more next now others
weaves_keep_all session s t loom r done more least next paper now digests others k p can at is a b c =
    subst (λ (l : List ℕ). KeepsFor session t l next now others) (sym a)
    (subst (λ (q : PaperCells). KeepsFor session t done next q others) (sym b)
    (subst (λ (ds : List Digests). KeepsFor session t done next paper ds) (sym c) (weaves_keep session s t loom r done least next paper digests k p can at is)))
