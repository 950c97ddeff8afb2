-- What a shift adds to a log.
use Rattle.std.specs.Prelude.{◌≡◌, ℕ, ◌+◌, ◌<◌, ◌≤◌, List, [], ◌++◌, length, map, slice_index, slice_index_or, All}
use Rattle.std.specs.List.Sorted.{IsNonDecreasing}
use Rattle.mill_base.specs.declared.face.Face.TheVariants.{Up}
use Rattle.version_journal.specs.Journals.{replies, versions}
use Rattle.version_journal.specs.declared.entry.Entry.{Entry}
use Rattle.version_journal.specs.declared.run_log.Repeat.{Repeat}
use Rattle.version_journal.specs.declared.run_log.RunLog.{RunLog}
use Rattle.session_file.specs.declared.session.Session.{Session}
use Rattle.loom_threads.specs.Woven.{IsWoven}
use Rattle.shift_model.specs.Logs.{Merge, accepted_before, named_act}
use Rattle.shift_model.specs.Plans.{plan_of}

-- the entries of a shift were added, which are a merge of its acts, and all replies are those of the acts in their order
pub record AddsEntries (session : Session) (k : ℕ) (before after : List Entry) : Type 0 where
  pub new : List Entry
  pub are : after ≡ before ++ new
  pub of_shift : All (λ entry. entry.shift ≡ k) new
  pub merge : Merge (plan_of session k) new
  pub replied : map (λ entry. entry.reply) after ≡ replies session.design session.opening (map (named_act session) after)

-- the stated repeats of a shift were added to a loom's, each from one version, with versions that never fall and lie between the two
pub record AddsRepeats (session : Session) (k loom first last : ℕ) (entries : List Entry) (before after : List Repeat) : Type 0 where
  pub new : List Repeat
  pub are : after ≡ before ++ new
  pub of_shift : All (λ woven. woven.shift ≡ k) new
  pub count : length new ≡ slice_index (plan_of session k).repeats loom
  pub versions_rise : IsNonDecreasing (map (λ woven. woven.version) new)
  pub no_older : All (λ woven. first ≤ woven.version) new
  pub no_newer : All (λ woven. woven.version ≤ last) new
  pub woven : All (IsWoven session.design session.show_rows (slice_index_or session.faces loom Up)
      (versions session.design session.opening (map (named_act session) entries))) new

-- a shift was added to a log
pub record AddsShift (session : Session) (k : ℕ) (before after : RunLog) : Type 0 where
  pub entries : AddsEntries session k before.entries after.entries
  pub looms : length after.looms ≡ length before.looms
  pub repeats : (loom : ℕ) → loom < session.looms
      → AddsRepeats session k loom (accepted_before k after.entries) (accepted_before (k + 1) after.entries) after.entries
      (slice_index_or before.looms loom []) (slice_index_or after.looms loom [])
