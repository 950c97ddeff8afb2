-- What a shift begins with, and what it leaves.
use Rattle.std.specs.Prelude.{◌≡◌, ℕ, ◌+◌, ◌-◌, ◌^◌, ◌<◌, ◌≤◌, ◌⊎◌, min, true, is_some, List, [], ◌++◌, length, map, drop, slice_index, slice_index_or, sum_by, All, Option, Some, None}
use Rattle.std.specs.List.Sorted.{IsNonDecreasing}
use Rattle.mill_base.specs.Causes.{Rose}
use Rattle.mill_base.specs.declared.face.Face.TheVariants.{Up}
use Rattle.point_paper.specs.Papers.{PaperCells}
use Rattle.card_image.specs.Sets.{CardsValue, cards_of, design_by}
use Rattle.version_journal.specs.Journals.{versions}
use Rattle.version_journal.specs.declared.entry.Entry.{Entry}
use Rattle.version_journal.specs.declared.run_log.Repeat.{Repeat}
use Rattle.version_journal.specs.declared.run_log.RunLog.{RunLog}
use Rattle.session_file.specs.Plans.{acts_in}
use Rattle.session_file.specs.declared.session.Session.{Session}
use Rattle.shed_publish.specs.Ends.{EndValue, new_end}
use Rattle.loom_threads.specs.Looms.{IsLoomOf, LoomValue, missed_of, readings_of, repeats_of}
use Rattle.loom_threads.specs.Woven.{IsWoven}
use Rattle.shift_run.specs.Desks.{AddsSome, Holds, NearlyShown, Stands}
use Rattle.shift_model.specs.Logs.{LegalBefore, accepted_before, named_act}
use Rattle.shift_model.specs.Plans.{IsNewest, plan_of}
use Rattle.shift_run.specs.declared.desk.Desk.{Desk}

-- all that a desk and its looms did so far
abbrev pub log_of : Desk → List LoomValue → RunLog
log_of desk looms = record { entries = desk.core.entries; looms = map (λ loom. loom.repeats) looms }

-- the repeats that a session states for a loom in the shifts from k on
abbrev pub repeats_from : Session → ℕ → ℕ → ℕ
repeats_from session k loom = sum_by (λ plan. slice_index plan.repeats loom) (drop k session.shifts)

-- a loom of the session, of this number, whose room is that of the session's repeats and suffices for the shifts from k on
pub record IsLoomAt (session : Session) (k j : ℕ) (loom : LoomValue) : Type 0 where
  pub kind : IsLoomOf session j loom
  pub whole : length loom.repeats + loom.spare ≡ repeats_of session j
  pub room : repeats_from session k j ≤ loom.spare

-- the looms of a session, the first so many of them, that have woven nothing
pub record AreNew (session : Session) (count : ℕ) (looms : List LoomValue) : Type 0 where
  pub many : length looms ≡ count
  pub each : (j : ℕ) (d : LoomValue) → j < length looms → IsLoomAt session 0 j (slice_index_or looms j d)
  pub repeats : (j : ℕ) (d : LoomValue) → j < length looms → (slice_index_or looms j d).repeats ≡ []

-- a loom's end is a new one, or there was no place for it, and the count of refused places rose
abbrev pub IsSeated : ℕ → ℕ → Option EndValue → Type 0
IsSeated before now end = ((end ≡ Some new_end) × (now ≡ before)) ⊎ ((end ≡ None) × Rose before now)

-- The shifts before k are done: their log is legal, the desk stands where its entries leave it, and desk and looms, one for each number,
-- have room for what is still to come.
pub record IsAtShift (session : Session) (k : ℕ) (desk : Desk) (looms : List LoomValue) : Type 0 where
  pub legal : LegalBefore session (log_of desk looms) k
  pub stands : Stands session desk
  pub room : acts_in (drop k session.shifts) ≤ desk.core.spare
  pub each : (j : ℕ) (d : LoomValue) → j < length looms → IsLoomAt session k j (slice_index_or looms j d)

-- the entries of a log, and the repeats of each of its looms, begin with those of an earlier one
pub record GoesOnFrom (before after : RunLog) : Type 0 where
  pub entries : (new : List Entry) × (after.entries ≡ before.entries ++ new)
  pub looms : length after.looms ≡ length before.looms
  pub repeats : (loom : ℕ) → loom < length before.looms → (new : List Repeat) × (slice_index_or after.looms loom [] ≡ slice_index_or before.looms loom [] ++ new)

-- a count rose by at least so many; at the greatest value of its type it stays
abbrev pub RoseBy : ℕ → ℕ → ℕ → Type 0
RoseBy many before now = min (before + many) (2 ^ 64 - 1) ≤ now

-- The readings of a loom that reads rose by more than its repeats of the shift, or its missed readings rose.
abbrev pub HasRead : ℕ → LoomValue → LoomValue → Type 0
HasRead many before after = is_some before.end ≡ true → RoseBy (many + 1) (readings_of before) (readings_of after) ⊎ Rose (missed_of before) (missed_of after)

-- every loom has read so
pub record HaveRead (repeats : List ℕ) (before after : List LoomValue) : Type 0 where
  pub each : (j : ℕ) (d : LoomValue) → j < length before → HasRead (slice_index repeats j) (slice_index_or before j d) (slice_index_or after j d)

-- the repeats of a shift have the version that is the newest once its acts are done
pub record AreNewest (k : ℕ) (entries : List Entry) (looms : List LoomValue) : Type 0 where
  pub each : (j : ℕ) (d : LoomValue) → j < length looms
      → All (λ woven. woven.shift ≡ k → woven.version ≡ accepted_before (k + 1) entries) (slice_index_or looms j d).repeats

-- Repeats of a shift were added to a loom's, perhaps not all that are stated: the versions of all its repeats never fall, those of the new
-- ones lie between the two, and each is woven from its version.
pub record AddsSomeRepeats (session : Session) (k loom first last : ℕ) (entries : List Entry) (before after : List Repeat) : Type 0 where
  pub new : List Repeat
  pub are : after ≡ before ++ new
  pub of_shift : All (λ woven. woven.shift ≡ k) new
  pub few : length new ≤ slice_index (plan_of session k).repeats loom
  pub versions_rise : IsNonDecreasing (map (λ woven. woven.version) after)
  pub no_older : All (λ woven. first ≤ woven.version) new
  pub no_newer : All (λ woven. woven.version ≤ last) new
  pub woven : All (IsWoven session.design session.show_rows (slice_index_or session.faces loom Up)
      (versions session.design session.opening (map (named_act session) entries))) new

-- Memory was refused in a shift: the desk is where its entries leave it, and at most its last version is not published; acts of the shift
-- and repeats of it were added, perhaps not all.
pub record IsCutShort (session : Session) (k : ℕ) (desk after : Desk) (looms done : List LoomValue) : Type 0 where
  pub holds : Holds session after
  pub nearly : NearlyShown session after
  pub entries : AddsSome session k desk.core.entries after.core.entries
  pub as_many : length done ≡ length looms
  pub repeats : (j : ℕ) (d : LoomValue) → j < length looms
      → AddsSomeRepeats session k j (accepted_before k after.core.entries) (accepted_before (k + 1) after.core.entries) after.core.entries
      (slice_index_or looms j d).repeats (slice_index_or done j d).repeats

-- cards that are cut of the newest version that these entries make
pub record AreCardsOfNewest (session : Session) (entries : List Entry) (cards : CardsValue) : Type 0 where
  pub paper : PaperCells
  pub newest : IsNewest (versions session.design session.opening (map (named_act session) entries)) paper
  pub cut : cards ≡ cards_of session.design paper
  pub design : cards.design ≡ design_by session.design.casting session.design.size.picks
