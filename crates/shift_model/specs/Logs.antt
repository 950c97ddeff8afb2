-- Which logs a session allows.
use Rattle.std.specs.Prelude.{◌≡◌, ℕ, ◌+◌, ◌-◌, ◌<◌, ◌≤◌, ◌==◌, ◌&&◌, nat_lt, List, [], length, map, filter, count_by, slice_index, slice_index_or, All}
use Rattle.std.specs.List.{range_with_len}
use Rattle.std.specs.List.Sorted.{IsNonDecreasing}
use Rattle.mill_base.specs.declared.face.Face.TheVariants.{Up}
use Rattle.strokes.specs.declared.act.Act.TheVariants.{Commit}
use Rattle.version_journal.specs.Entries.{is_accepted}
use Rattle.version_journal.specs.Journals.{ActWithMotif, replies, versions, with_motif}
use Rattle.version_journal.specs.declared.entry.Entry.{Entry}
use Rattle.version_journal.specs.declared.run_log.Repeat.{Repeat}
use Rattle.version_journal.specs.declared.run_log.RunLog.{RunLog}
use Rattle.session_file.specs.declared.session.Session.{Session}
use Rattle.session_file.specs.declared.session.ShiftPlan.{ShiftPlan}
use Rattle.loom_threads.specs.Woven.{IsWoven}
use Rattle.shift_model.specs.Plans.{plan_of, acts_of_painter}

-- the act that an entry names, with the cells of its motif: its number counts the painter's acts of that shift from 1
abbrev pub named_act : Session → Entry → ActWithMotif
named_act session entry = with_motif session.motifs (slice_index_or (acts_of_painter (plan_of session entry.shift) entry.painter) (entry.number - 1) Commit)

abbrev pub entries_of_shift : ℕ → List Entry → List Entry
entries_of_shift shift entries = filter (λ entry. entry.shift == shift) entries

abbrev pub numbers_of_painter : ℕ → List Entry → List ℕ
numbers_of_painter painter entries = map (λ entry. entry.number) (filter (λ entry. entry.painter == painter) entries)

-- The entries are a merge of a shift's acts: each names a painter of the plan, and those of each painter, in their order, have the
-- numbers 1, 2, .. up to the count of that painter's acts.
pub record Merge (plan : ShiftPlan) (entries : List Entry) : Type 0 where
  pub painters : All (λ entry. entry.painter < length plan.painters) entries
  pub numbers : (painter : ℕ) → painter < length plan.painters
      → numbers_of_painter painter entries ≡ range_with_len 1 (length (acts_of_painter plan painter))

-- the shift numbers never fall, and are below k
pub record AreBefore (shifts : List ℕ) (k : ℕ) : Type 0 where
  pub order : IsNonDecreasing shifts
  pub before : All (λ shift. shift < k) shifts

-- how many commits were accepted in the shifts below k
abbrev pub accepted_before : ℕ → List Entry → ℕ
accepted_before k entries = count_by (λ entry. nat_lt entry.shift k && is_accepted entry.reply) entries

-- a repeat has a version no older than the last one accepted before its shift, and no newer than the last one accepted in it
pub record IsCurrent (entries : List Entry) (woven : Repeat) : Type 0 where
  pub no_older : accepted_before woven.shift entries ≤ woven.version
  pub no_newer : woven.version ≤ accepted_before (woven.shift + 1) entries

-- What a loom wove in the shifts below k: exactly the stated number of repeats of each, in the order of the shifts, with versions that
-- never fall, each repeat lifted on the loom's face from one current version, from its first pick to its last.
pub record IsLoomLog (session : Session) (entries : List Entry) (k loom : ℕ) (repeats : List Repeat) : Type 0 where
  pub shifts : AreBefore (map (λ woven. woven.shift) repeats) k
  pub counts : (shift : ℕ) → shift < k → count_by (λ woven. woven.shift == shift) repeats ≡ slice_index (plan_of session shift).repeats loom
  pub versions_rise : IsNonDecreasing (map (λ woven. woven.version) repeats)
  pub current : All (IsCurrent entries) repeats
  pub woven : All (IsWoven session.design session.show_rows (slice_index_or session.faces loom Up)
      (versions session.design session.opening (map (named_act session) entries))) repeats

-- A legal journal up to shift k: the entries of each earlier shift are a merge of its acts, shift after shift, and their replies are those
-- of the acts that they name, in their order.
pub record IsJournal (session : Session) (entries : List Entry) (k : ℕ) : Type 0 where
  pub shifts : AreBefore (map (λ entry. entry.shift) entries) k
  pub merges : (shift : ℕ) → shift < k → Merge (plan_of session shift) (entries_of_shift shift entries)
  pub replied : map (λ entry. entry.reply) entries ≡ replies session.design session.opening (map (named_act session) entries)

-- a legal log up to shift k: its journal is one, and each loom wove what the session states
pub record LegalBefore (session : Session) (log : RunLog) (k : ℕ) : Type 0 where
  pub journal : IsJournal session log.entries k
  pub looms : length log.looms ≡ session.looms
  pub repeats : (loom : ℕ) → loom < session.looms → IsLoomLog session log.entries k loom (slice_index_or log.looms loom [])

-- a legal log of the whole session
abbrev pub Legal : Session → RunLog → Type 0
Legal session log = LegalBefore session log (length session.shifts)

-- each repeat has the version that is the newest once the acts of its shift are done
abbrev pub HasNewest : List Entry → Repeat → Type 0
HasNewest entries woven = woven.version ≡ accepted_before (woven.shift + 1) entries
