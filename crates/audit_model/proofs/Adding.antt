-- A shift that is added to a legal log leaves a legal log.
use Rattle.std.proofs.Common.{length, take, drop, fold, ◌≡◌, ◌⊎◌, inl, inr, append-nil, ◌+◌, ◌<◌, ◌≤◌, ◌==◌, ◌&&◌, nat_lt, ℕ, Bool, true, false, List, [], ◌∷◌, ◌++◌, get_or, map, cond, refl, sym, ap, subst, ◌∙◌, arith}
use Rattle.std.proofs.lemmas.Bool.{cases_lt}
use Rattle.std.proofs.lemmas.Bool.Decides.{nat_tests}
use Rattle.std.specs.Prelude.{All, count_by, slice_index}
use Rattle.std.specs.List.Sorted.{IsNonDecreasing}
use Rattle.std.proofs.lemmas.List.{map-append, take-append-drop}
use Rattle.std.proofs.lemmas.List.Elements.{filter-append, All-append, All-map}
use Rattle.std.proofs.lemmas.List.Sums.{sum_by-append, sum_by-cons, fold-append}
use Rattle.mill_base.specs.declared.face.Face.{Face}
use Rattle.mill_base.specs.declared.face.Face.TheVariants.{Up}
use Rattle.point_paper.specs.Papers.{PaperCells}
use Rattle.draft_model.specs.declared.design.Design.{Design}
use Rattle.version_journal.specs.Entries.{is_accepted}
use Rattle.version_journal.specs.Journals.{ActWithMotif, History, begun, history, replies, step, versions}
use Rattle.version_journal.specs.declared.entry.Entry.{Entry}
use Rattle.version_journal.specs.declared.run_log.Repeat.{Repeat}
use Rattle.version_journal.specs.declared.run_log.RunLog.{RunLog}
use Rattle.session_file.specs.declared.session.Session.{Session}
use Rattle.loom_threads.specs.Woven.{IsWoven}
use Rattle.shift_model.specs.Plans.{plan_of}
use Rattle.shift_model.specs.Logs.{AreBefore, IsCurrent, IsJournal, IsLoomLog, LegalBefore, Merge, accepted_before, entries_of_shift, named_act}
use Rattle.audit_model.specs.inner.Adds.{AddsEntries, AddsRepeats, AddsShift}
use Rattle.audit_model.specs.States.{named_acts}
use Rattle.version_journal.proofs.Histories.{versions_count, versions_stay}
use Rattle.shift_model.proofs.lemmas.Lists.{All_mono, All_tail, All_unmap, count_all, count_none, filter_all, filter_none, is_of, kept, not_of, rises}

-- acts only add versions
pub versions_grow : (design : Design) (opening : PaperCells) (one other : List ActWithMotif)
    → (rest : List PaperCells) × (versions design opening (one ++ other) ≡ versions design opening one ++ rest)
versions_grow design opening one other =
    let n = length (versions design opening one) in
    let all : List PaperCells = versions design opening (one ++ other) in
    let stay : take n all ≡ versions design opening one =
    ap (λ (h : History). take n h.versions) (fold-append (step design) (begun opening) one other) ∙ versions_stay design (history design opening one) other in
    (drop n all, sym (take-append-drop n all) ∙ ap (λ l. l ++ drop n all) stay)

-- a repeat that was woven from a version stays one when versions are added
pub woven_later : (design : Design) (shown : Bool) (face : Face) (papers more : List PaperCells) (woven : Repeat) → IsWoven design shown face papers woven → IsWoven design shown face (papers ++ more) woven
woven_later design shown face papers more woven h = record { paper = h.paper; version = kept papers more woven.version h.paper h.version; digest = h.digest; rows = h.rows }

before_append : (xs ys : List ℕ) (k : ℕ) → AreBefore xs k → IsNonDecreasing ys → All (λ y. y ≡ k) ys → AreBefore (xs ++ ys) (k + 1)
before_append xs ys k b rise all = record {
  order = rises xs ys k b.order rise (All_mono (λ x. x < k) (λ x. x ≤ k) xs (λ x h. omega arith) b.before) (All_mono (λ y. y ≡ k) (λ y. k ≤ y) ys (λ y h. omega arith) all);
  before = All-append (λ x. x < k + 1) xs ys (All_mono (λ x. x < k) (λ x. x < k + 1) xs (λ x h. omega arith) b.before) (All_mono (λ y. y ≡ k) (λ y. y < k + 1) ys (λ y h. omega arith) all);
}

pub equal_rise : (ys : List ℕ) (k : ℕ) → All (λ y. y ≡ k) ys → IsNonDecreasing ys
equal_rise ys k all i j d up below = omega (arith, all i d (omega arith), all j d below)

pub accepted_append : (j : ℕ) (es fs : List Entry) → accepted_before j (es ++ fs) ≡ accepted_before j es + accepted_before j fs
accepted_append j es fs = sum_by-append (λ (e : Entry). cond (nat_lt e.shift j && is_accepted e.reply) 1 0) es fs

-- entries of a shift that isn't below j are not counted
pub accepted_none : (j : ℕ) (fs : List Entry) → All (λ e. j ≤ e.shift) fs → accepted_before j fs ≡ 0
accepted_none j fs all = count_none (λ e. nat_lt e.shift j && is_accepted e.reply) fs (All_mono (λ e. j ≤ e.shift) (λ e. (nat_lt e.shift j && is_accepted e.reply) ≡ false) fs (λ e h. no e.shift (is_accepted e.reply) h) all) where
  no : (s : ℕ) (a : Bool) → j ≤ s → (nat_lt s j && a) ≡ false
  no s a h = ap (λ b. b && a) (let e : nat_lt s j ≡ false = grind (arith, nat_tests) in e)

pub accepted_rises : (i j : ℕ) (es : List Entry) → i ≤ j → accepted_before i es ≤ accepted_before j es
accepted_rises i j [] h = omega arith
accepted_rises i j (e ∷ es) h =
    omega (
      arith,
      accepted_rises i j es h,
      one (nat_lt e.shift i) (nat_lt e.shift j) (is_accepted e.reply) (λ p. grind (arith, nat_tests)),
      sum_by-cons (λ (e : Entry). cond (nat_lt e.shift i && is_accepted e.reply) 1 0) e es,
      sum_by-cons (λ (e : Entry). cond (nat_lt e.shift j && is_accepted e.reply) 1 0) e es,
    ) where
      one : (p q a : Bool) → (p ≡ true → q ≡ true) → cond (p && a) 1 0 ≤ cond (q && a) 1 0
      one false q a h = omega arith
      one true q a h = subst (λ b. cond a 1 0 ≤ cond (b && a) 1 0) (sym (h refl)) (omega arith)

-- a journal of which the entries of one shift more are known
pub journal_more : (session : Session) (before after : List Entry) (k : ℕ) → IsJournal session before k → AddsEntries session k before after → IsJournal session after (k + 1)
journal_more session before after k j a =
    let here : All (λ n. n ≡ k) (map (λ (e : Entry). e.shift) a.new) = All-map (λ n. n ≡ k) (λ (e : Entry). e.shift) a.new a.of_shift in
    record {
      shifts = subst (λ (l : List ℕ). AreBefore l (k + 1)) (sym (ap (map (λ (e : Entry). e.shift)) a.are ∙ map-append (λ (e : Entry). e.shift) before a.new))
          (before_append (map (λ (e : Entry). e.shift) before) (map (λ (e : Entry). e.shift) a.new) k j.shifts (equal_rise (map (λ (e : Entry). e.shift) a.new) k here) here);
      merges = λ shift h. merged shift h (cases_lt shift k);
      replied = a.replied;
    } where
      old_shifts : All (λ (e : Entry). e.shift < k) before
      old_shifts = All_unmap (λ (e : Entry). e.shift) before (λ n. n < k) j.shifts.before

      parts : (shift : ℕ) → entries_of_shift shift after ≡ entries_of_shift shift before ++ entries_of_shift shift a.new
      parts shift = ap (entries_of_shift shift) a.are ∙ filter-append (λ (e : Entry). e.shift == shift) before a.new

      merged : (shift : ℕ) → shift < k + 1 → (shift < k) ⊎ (k ≤ shift) → Merge (plan_of session shift) (entries_of_shift shift after)
      merged shift h (inl low) =
          subst (λ (l : List Entry). Merge (plan_of session shift) l)
          (sym (parts shift ∙ ap (λ l. entries_of_shift shift before ++ l) (filter_none (λ (e : Entry). e.shift == shift) a.new
          (All_mono (λ (e : Entry). e.shift ≡ k) (λ (e : Entry). (e.shift == shift) ≡ false) a.new (λ e s. not_of e.shift shift (λ (same : e.shift ≡ shift). omega arith)) a.of_shift)) ∙ append-nil (entries_of_shift shift before)))
          (j.merges shift low)
      merged shift h (inr high) =
          let same : k ≡ shift = omega arith in
          subst (λ (s : ℕ). Merge (plan_of session s) (entries_of_shift s after)) same
          (subst (λ (l : List Entry). Merge (plan_of session k) l)
          (sym (parts k ∙ ap (λ l. l ++ entries_of_shift k a.new) (filter_none (λ (e : Entry). e.shift == k) before
          (All_mono (λ (e : Entry). e.shift < k) (λ (e : Entry). (e.shift == k) ≡ false) before (λ e s. not_of e.shift k (λ (same : e.shift ≡ k). omega arith)) old_shifts))
          ∙ filter_all (λ (e : Entry). e.shift == k) a.new (All_mono (λ (e : Entry). e.shift ≡ k) (λ (e : Entry). (e.shift == k) ≡ true) a.new (λ e s. is_of e.shift k s) a.of_shift)))
          a.merge)

-- the versions of a journal begin with those of what it began with
pub versions_more : (session : Session) (before new : List Entry) → (rest : List PaperCells)
    × (versions session.design session.opening (named_acts session (before ++ new)) ≡ versions session.design session.opening (named_acts session before) ++ rest)
versions_more session before new =
    let grown = versions_grow session.design session.opening (named_acts session before) (named_acts session new) in
    (grown.0, ap (versions session.design session.opening) (map-append (named_act session) before new) ∙ grown.1)

-- the repeats of one loom, of which those of one shift more are known
loom_more : (session : Session) (old after : List Entry) (k loom : ℕ) (before repeats : List Repeat) → IsJournal session old k → AddsEntries session k old after
    → IsLoomLog session old k loom before
    → AddsRepeats session k loom (accepted_before k after) (accepted_before (k + 1) after) after before repeats
    → IsLoomLog session after (k + 1) loom repeats
loom_more session old after k loom before repeats j e l a =
    let here : All (λ n. n ≡ k) (map (λ (r : Repeat). r.shift) a.new) = All-map (λ n. n ≡ k) (λ (r : Repeat). r.shift) a.new a.of_shift in
    record {
      shifts = subst (λ (x : List ℕ). AreBefore x (k + 1)) (sym (ap (map (λ (r : Repeat). r.shift)) a.are ∙ map-append (λ (r : Repeat). r.shift) before a.new))
          (before_append (map (λ (r : Repeat). r.shift) before) (map (λ (r : Repeat). r.shift) a.new) k l.shifts (equal_rise (map (λ (r : Repeat). r.shift) a.new) k here) here);
      counts = λ shift h. counted shift h (cases_lt shift k);
      versions_rise = subst (λ (x : List ℕ). IsNonDecreasing x) (sym (ap (map (λ (r : Repeat). r.version)) a.are ∙ map-append (λ (r : Repeat). r.version) before a.new))
          (rises (map (λ (r : Repeat). r.version) before) (map (λ (r : Repeat). r.version) a.new) (accepted_before k after) l.versions_rise a.versions_rise
          (All-map (λ n. n ≤ accepted_before k after) (λ (r : Repeat). r.version) before old_low)
          (All-map (λ n. accepted_before k after ≤ n) (λ (r : Repeat). r.version) a.new a.no_older));
      current = subst (λ (x : List Repeat). All (IsCurrent after) x) (sym a.are) (All-append (IsCurrent after) before a.new old_current new_current);
      woven = subst (λ (x : List Repeat). All (IsWoven session.design session.show_rows (get_or session.faces loom Up) (versions session.design session.opening (named_acts session after))) x) (sym a.are)
          (All-append (IsWoven session.design session.show_rows (get_or session.faces loom Up) (versions session.design session.opening (named_acts session after))) before a.new old_woven a.woven);
    } where
      old_shifts : All (λ (r : Repeat). r.shift < k) before
      old_shifts = All_unmap (λ (r : Repeat). r.shift) before (λ n. n < k) l.shifts.before

      -- the commits that the old entries count stay counted
      same : (i : ℕ) → i ≤ k → accepted_before i after ≡ accepted_before i old
      same i h =
          let none : accepted_before i e.new ≡ 0 = accepted_none i e.new (All_mono (λ (n : Entry). n.shift ≡ k) (λ (n : Entry). i ≤ n.shift) e.new (λ n s. omega arith) e.of_shift) in
          omega (arith, ap (accepted_before i) e.are, accepted_append i old e.new, none)

      old_current : All (IsCurrent after) before
      old_current i d h =
          let r = get_or before i d in
          let c : IsCurrent old r = l.current i d h in
          let low : r.shift < k = old_shifts i d h in
          record { no_older = omega (arith, c.no_older, same r.shift (omega arith)); no_newer = omega (arith, c.no_newer, same (r.shift + 1) (omega arith)) }

      old_low : All (λ (r : Repeat). r.version ≤ accepted_before k after) before
      old_low i d h =
          let r = get_or before i d in
          let c : IsCurrent after r = old_current i d h in
          let low : r.shift < k = old_shifts i d h in
          omega (arith, c.no_newer, accepted_rises (r.shift + 1) k after (omega arith))

      new_current : All (IsCurrent after) a.new
      new_current i d h =
          let r = get_or a.new i d in
          let is : k ≡ r.shift = sym (a.of_shift i d h) in
          record {
            no_older = subst (λ (s : ℕ). accepted_before s after ≤ r.version) is (a.no_older i d h);
            no_newer = subst (λ (s : ℕ). r.version ≤ accepted_before (s + 1) after) is (a.no_newer i d h);
          }

      old_woven : All (IsWoven session.design session.show_rows (get_or session.faces loom Up) (versions session.design session.opening (named_acts session after))) before
      old_woven i d h =
          let more = versions_more session old e.new in
          subst (λ (v : List PaperCells). IsWoven session.design session.show_rows (get_or session.faces loom Up) v (get_or before i d))
          (sym (ap (λ x. versions session.design session.opening (named_acts session x)) e.are ∙ more.1))
          (woven_later session.design session.show_rows (get_or session.faces loom Up) (versions session.design session.opening (named_acts session old)) more.0 (get_or before i d) (l.woven i d h))

      parts : (shift : ℕ) → count_by (λ (r : Repeat). r.shift == shift) repeats ≡ count_by (λ (r : Repeat). r.shift == shift) before + count_by (λ (r : Repeat). r.shift == shift) a.new
      parts shift = ap (count_by (λ (r : Repeat). r.shift == shift)) a.are ∙ sum_by-append (λ (r : Repeat). cond (r.shift == shift) 1 0) before a.new

      counted : (shift : ℕ) → shift < k + 1 → (shift < k) ⊎ (k ≤ shift) → count_by (λ (r : Repeat). r.shift == shift) repeats ≡ slice_index (plan_of session shift).repeats loom
      counted shift h (inl low) =
          let none = count_none (λ (r : Repeat). r.shift == shift) a.new
          (All_mono (λ (r : Repeat). r.shift ≡ k) (λ (r : Repeat). (r.shift == shift) ≡ false) a.new (λ r s. not_of r.shift shift (λ (same : r.shift ≡ shift). omega arith)) a.of_shift) in
          omega (arith, parts shift, none, l.counts shift low)
      counted shift h (inr high) =
          let is : k ≡ shift = omega arith in
          let none = count_none (λ (r : Repeat). r.shift == k) before
          (All_mono (λ (r : Repeat). r.shift < k) (λ (r : Repeat). (r.shift == k) ≡ false) before (λ r s. not_of r.shift k (λ (same : r.shift ≡ k). omega arith)) old_shifts) in
          let all = count_all (λ (r : Repeat). r.shift == k) a.new (All_mono (λ (r : Repeat). r.shift ≡ k) (λ (r : Repeat). (r.shift == k) ≡ true) a.new (λ r s. is_of r.shift k s) a.of_shift) in
          let here : count_by (λ (r : Repeat). r.shift == k) repeats ≡ slice_index (plan_of session k).repeats loom = omega (arith, parts k, none, all, a.count) in
          subst (λ (s : ℕ). count_by (λ (r : Repeat). r.shift == s) repeats ≡ slice_index (plan_of session s).repeats loom) is here

-- a log of which one shift more is known
pub legal_more : (session : Session) (k : ℕ) (before after : RunLog) → LegalBefore session before k → AddsShift session k before after → LegalBefore session after (k + 1)
legal_more session k before after l a = record {
  journal = journal_more session before.entries after.entries k l.journal a.entries;
  looms = a.looms ∙ l.looms;
  repeats = λ loom h. loom_more session before.entries after.entries k loom (get_or before.looms loom []) (get_or after.looms loom []) l.journal a.entries (l.repeats loom h) (a.repeats loom h);
}

counts_alike : (k : ℕ) (es : List Entry) → All (λ n. n < k) (map (λ (e : Entry). e.shift) es) → accepted_before k es ≡ count_by is_accepted (map (λ (e : Entry). e.reply) es)
counts_alike k [] all = refl
counts_alike k (e ∷ es) all =
    let low : (nat_lt e.shift k && is_accepted e.reply) ≡ is_accepted e.reply = ap (λ b. b && is_accepted e.reply) (yes e.shift (all 0 e.shift (omega arith))) in
    omega (
      arith,
      sum_by-cons (λ (e : Entry). cond (nat_lt e.shift k && is_accepted e.reply) 1 0) e es,
      sum_by-cons (λ r. cond (is_accepted r) 1 0) e.reply (map (λ (e : Entry). e.reply) es),
      one (nat_lt e.shift k && is_accepted e.reply) (is_accepted e.reply) low,
      counts_alike k es (All_tail (λ n. n < k) e.shift (map (λ (e : Entry). e.shift) es) all),
    ) where
      yes : (s : ℕ) → s < k → nat_lt s k ≡ true
      yes s h = grind (arith, nat_tests)

      one : (a b : Bool) → a ≡ b → ◌≡◌ {A = ℕ} (cond a 1 0) (cond b 1 0)
      one a b h = ap (λ c. cond c 1 0) h

-- there is one version more than commits that were accepted, where the replies are those of the acts
pub entries_versions : (session : Session) (entries : List Entry) (k : ℕ) → All (λ n. n < k) (map (λ (e : Entry). e.shift) entries)
    → map (λ (e : Entry). e.reply) entries ≡ replies session.design session.opening (named_acts session entries)
    → length (versions session.design session.opening (named_acts session entries)) ≡ accepted_before k entries + 1
entries_versions session entries k low replied =
    omega (arith, versions_count session.design session.opening (named_acts session entries), counts_alike k entries low, ap (count_by is_accepted) replied)

-- a journal has one version more than commits that were accepted
pub journal_versions : (session : Session) (entries : List Entry) (k : ℕ) → IsJournal session entries k → length (versions session.design session.opening (named_acts session entries)) ≡ accepted_before k entries + 1
journal_versions session entries k j = entries_versions session entries k j.shifts.before j.replied
