-- The looms' parts of a shift.
use Rattle.std.specs.Prelude.{◌≡◌, ℕ, ◌+◌, ◌-◌, ◌<◌, ◌≤◌, ◌⊎◌, Bool, true, false, MatchBool, is_some, List, ◌++◌, length, take, drop, replicate, slice_index, slice_index_or}
use Rattle.mill_base.specs.Causes.{Rose}
use Rattle.card_image.specs.Sets.{CardsValue, design_by}
use Rattle.version_journal.specs.declared.run_log.Repeat.{Repeat}
use Rattle.shed_publish.specs.Versions.{IsPrefix}
use Rattle.shed_publish.specs.declared.newest.Version.{Version}
use Rattle.loom_threads.specs.Looms.{AreOf, IsTold, Knows, LoomValue, Wove, list_of, missed_of, readings_of, repeat_from}
use Rattle.shift_run.specs.Runs.{HasRead}
use Rattle.shift_run.specs.declared.looms.Part.{Part}

-- the part of a loom; of a loom that there is none of, nothing is known
abbrev pub part_at : List Part → ℕ → Part
part_at parts j = slice_index_or parts j (record { told = false; start = 0 })

-- A loom after it was handed the published list before a shift: where it took it, it knows the list; else a reading of it was missed.
pub record IsReadied (told : List Version) (part : Part) (before after : LoomValue) : Type 0 where
  pub same : after ≡ record before { end = after.end }
  pub reads : is_some after.end ≡ is_some before.end
  pub start : part.start ≡ length before.repeats
  pub readings : readings_of before ≤ readings_of after
  pub missed : missed_of before ≤ missed_of after
  pub knows : part.told ≡ true → Knows told after
  pub untold : part.told ≡ false → is_some before.end ≡ true → Rose (missed_of before) (missed_of after)

pub record AllReadied (told : List Version) (parts : List Part) (before after : List LoomValue) : Type 0 where
  pub looms : length after ≡ length before
  pub each : (j : ℕ) (d : LoomValue) → j < length before → IsReadied told (part_at parts j) (slice_index_or before j d) (slice_index_or after j d)

-- the loom can do its part
pub record CanWeave (many : ℕ) (part : Part) (loom : LoomValue) : Type 0 where
  pub room : many ≤ loom.spare
  pub told : part.told ≡ true → IsTold loom

pub record AllCanWeave (repeats : List ℕ) (parts : List Part) (looms : List LoomValue) : Type 0 where
  pub each : (j : ℕ) (d : LoomValue) → j < length looms → CanWeave (slice_index repeats j) (part_at parts j) (slice_index_or looms j d)

-- it wove so many repeats, or missed a reading
pub record DidTurns (k many : ℕ) (before after : LoomValue) : Type 0 where
  pub wove : Wove k before after
  pub few : length after.repeats ≤ length before.repeats + many
  pub missed : length after.repeats < length before.repeats + many → Rose (missed_of before) (missed_of after)

-- a loom that was told wove, and another did nothing
pub record DidPart (k many : ℕ) (part : Part) (before after : LoomValue) : Type 0 where
  pub does : MatchBool part.told (DidTurns k many before after) (after ≡ before)

pub record AllDid (k : ℕ) (repeats : List ℕ) (parts : List Part) (before after : List LoomValue) : Type 0 where
  pub looms : length after ≡ length before
  pub each : (j : ℕ) (d : LoomValue) → j < length before
      → DidPart k (slice_index repeats j) (part_at parts j) (slice_index_or before j d) (slice_index_or after j d)

-- what it read is the published list
pub record HasMet (known : ℕ) (shown : List Version) (before after : LoomValue) : Type 0 where
  pub same : after ≡ record before { end = after.end }
  pub reads : is_some before.end ≡ true
  pub knows : (list : List Version) → Knows list before → IsPrefix list (list_of after)
  pub later : IsPrefix (list_of before) (list_of after)
  pub long : length (list_of after) ≡ length shown
  pub alike : drop known (list_of after) ≡ drop known shown
  pub readings : Rose (readings_of before) (readings_of after)
  pub missed : missed_of before ≤ missed_of after

-- it did not meet the published list, and its repeats of the shift were dropped
pub record WasCut (start : ℕ) (before after : LoomValue) : Type 0 where
  pub same : after ≡ record before { end = after.end; repeats = take start before.repeats; spare = before.spare + (length before.repeats - start) }
  pub reads : is_some before.end ≡ true
  pub missed : Rose (missed_of before) (missed_of after)

-- a loom that does not read
pub record IsDeaf (before after : LoomValue) : Type 0 where
  pub same : after ≡ before
  pub reads : is_some before.end ≡ false

abbrev pub Keeps : ℕ → List Version → ℕ → LoomValue → LoomValue → Type 0
Keeps known shown start before after = HasMet known shown before after ⊎ (WasCut start before after ⊎ IsDeaf before after)

-- so many repeats of one version were added
pub record Fills (k version count : ℕ) (cards : CardsValue) (before after : LoomValue) : Type 0 where
  pub same : after ≡ record before { repeats = before.repeats ++ replicate count (repeat_from before k version cards); spare = after.spare }
  pub spare : after.spare + count ≡ before.spare

-- it kept what it read of the published list, and what it lacked was added
pub record DidFinish (k many known version : ℕ) (cards : CardsValue) (shown : List Version) (part : Part) (before after : LoomValue) : Type 0 where
  pub kept : LoomValue
  pub keeps : Keeps known shown part.start before kept
  pub fills : Fills k version (part.start + many - length kept.repeats) cards kept after
  pub few : length kept.repeats ≤ part.start + many

pub record AllFinished (k known version : ℕ) (cards : CardsValue) (shown : List Version) (repeats : List ℕ) (parts : List Part) (before after : List LoomValue) : Type 0 where
  pub looms : length after ≡ length before
  pub each : (j : ℕ) (d : LoomValue) → j < length before
      → DidFinish k (slice_index repeats j) known version cards shown (part_at parts j) (slice_index_or before j d) (slice_index_or after j d)

-- what lacks can be added
pub record CanFinish (many : ℕ) (cards : CardsValue) (part : Part) (loom : LoomValue) : Type 0 where
  pub start : part.start ≤ length loom.repeats
  pub few : length loom.repeats ≤ part.start + many
  pub room : part.start + many ≤ length loom.repeats + loom.spare
  pub design : cards.design ≡ design_by loom.machine.casting loom.picks

pub record AllCanFinish (repeats : List ℕ) (cards : CardsValue) (parts : List Part) (looms : List LoomValue) : Type 0 where
  pub each : (j : ℕ) (d : LoomValue) → j < length looms → CanFinish (slice_index repeats j) cards (part_at parts j) (slice_index_or looms j d)

-- The whole shift of a loom: the stated repeats were added, each from an entry of this list, none older than `first`.
pub record DidShift (k many first : ℕ) (list : List Version) (before after : LoomValue) : Type 0 where
  pub new : List Repeat
  pub are : after.repeats ≡ before.repeats ++ new
  pub count : length new ≡ many
  pub same : after ≡ record before { end = after.end; repeats = after.repeats; spare = after.spare }
  pub spare : after.spare + many ≡ before.spare
  pub woven : AreOf before k first list new
  pub read : HasRead many before after

pub record AllDidShift (k first : ℕ) (list : List Version) (repeats : List ℕ) (before after : List LoomValue) : Type 0 where
  pub looms : length after ≡ length before
  pub each : (j : ℕ) (d : LoomValue) → j < length before
      → DidShift k (slice_index repeats j) first list (slice_index_or before j d) (slice_index_or after j d)
