-- What contracts see of a loom, and what its part of a shift leaves.
use Rattle.std.specs.Prelude.{◌≡◌, ℕ, ◌+◌, ◌-◌, ◌^◌, ◌≤◌, Bool, List, [], ◌++◌, length, map, min, sum_by, slice_get, IsSomeAnd, slice_index, slice_index_or, Option, Some, None, All, ◌⊎◌}
use Rattle.std.specs.List.Sorted.{IsNonDecreasing}
use Rattle.std.specs.Option.{option_map_or}
use Rattle.mill_base.specs.Causes.{Rose}
use Rattle.mill_base.specs.declared.face.Face.{Face}
use Rattle.mill_base.specs.declared.face.Face.TheVariants.{Up}
use Rattle.card_image.specs.Sets.{CardsValue, design_by}
use Rattle.loom_machine.specs.Machines.{MachineValue}
use Rattle.version_journal.specs.declared.run_log.Repeat.{Repeat}
use Rattle.shed_publish.specs.Ends.{EndValue, Knows as EndKnows, new_end}
use Rattle.shed_publish.specs.Versions.{IsPrefix}
use Rattle.shed_publish.specs.declared.desk_end.Seat.{Seat}
use Rattle.shed_publish.specs.declared.desk_end.Seat.TheVariants.{Reads, Later}
use Rattle.shed_publish.specs.declared.newest.Version.{Version}
use Rattle.session_file.specs.declared.session.Session.{Session}
use Rattle.loom_threads.specs.Cuts.{machine_of}
use Rattle.loom_threads.specs.Lifts.{cloth_from}
use Rattle.loom_threads.specs.Woven.{repeat_of}

-- a loom: its number, its machine, the picks and the face of its cloth, whether its rows are shown, its end of the published list, if it
-- has one, the repeats that it wove, and how many more there is room for
pub record LoomValue : Type 0 where
  pub number : ℕ
  pub machine : MachineValue
  pub picks : ℕ
  pub face : Face
  pub shown : Bool
  pub end : Option EndValue
  pub repeats : List Repeat
  pub spare : ℕ

-- the loom of a session that has this number
pub record IsLoomOf (session : Session) (number : ℕ) (loom : LoomValue) : Type 0 where
  pub numbered : loom.number ≡ number
  pub machine : loom.machine ≡ machine_of session.design
  pub picks : loom.picks ≡ session.design.size.picks
  pub face : loom.face ≡ slice_index_or session.faces number Up
  pub shown : loom.shown ≡ session.show_rows

-- the repeats that a session states for a loom, in all shifts
abbrev pub repeats_of : Session → ℕ → ℕ
repeats_of session number = sum_by (λ plan. slice_index plan.repeats number) session.shifts

-- the end that a loom has by its seat
abbrev pub end_by : Seat → Option EndValue
end_by (Reads end) = Some end
end_by Later = None

-- the list that the loom's end saw last, and the end's counts; without an end there is none of them
abbrev pub list_of : LoomValue → List Version
list_of loom = option_map_or (λ end. end.list) loom.end []

abbrev pub readings_of : LoomValue → ℕ
readings_of loom = option_map_or (λ end. end.readings) loom.end 0

abbrev pub missed_of : LoomValue → ℕ
missed_of loom = option_map_or (λ end. end.missed) loom.end 0

-- the loom's end; without one, an end that has seen and learnt nothing
abbrev pub seen_by : LoomValue → EndValue
seen_by loom = option_map_or (λ end. end) loom.end new_end

-- the loom has an end, and whatever that sees from now on begins with the told list
pub record Knows (told : List Version) (loom : LoomValue) : Type 0 where
  pub end : EndValue
  pub is : loom.end ≡ Some end
  pub knows : EndKnows told end

-- the loom knows the told list; or its end got no place, and the count of refused places rose
abbrev pub KnowsOr : List Version → LoomValue → ℕ → ℕ → Type 0
KnowsOr told loom before now = (Knows told loom × (now ≡ before)) ⊎ Rose before now

-- the loom was told a list whose first entry has cards for its machine and picks
pub record IsTold (loom : LoomValue) : Type 0 where
  pub told : List Version
  pub knows : Knows told loom
  pub first : Version
  pub there : slice_get told 0 ≡ Some first
  pub design : first.cards.design ≡ design_by loom.machine.casting loom.picks

-- the repeat that the loom weaves of a version with these cards
abbrev pub repeat_from : LoomValue → ℕ → ℕ → CardsValue → Repeat
repeat_from loom shift version cards = repeat_of shift version loom.shown (cloth_from loom.machine loom.face cards)

-- the repeat is what the loom weaves of an entry of the list
pub record IsShown (loom : LoomValue) (list : List Version) (woven : Repeat) : Type 0 where
  pub cards : CardsValue
  pub entry : slice_get list woven.version ≡ Some (record { version = woven.version; cards = cards })
  pub repeat : woven ≡ repeat_from loom woven.shift woven.version cards

-- repeats of a shift, each of an entry of the list, with versions that never fall, from `first` on
pub record AreOf (loom : LoomValue) (shift first : ℕ) (list : List Version) (new : List Repeat) : Type 0 where
  pub of_shift : All (λ woven. woven.shift ≡ shift) new
  pub versions_rise : IsNonDecreasing (map (λ woven. woven.version) new)
  pub no_older : All (λ woven. first ≤ woven.version) new
  pub shown : All (IsShown loom list) new

-- What a loom's part of a shift leaves. It added repeats, for each of which there was room and one reading more; its end's list grew, and
-- whatever its end knew, it knows. Each repeat is of an entry of the list that it read last, and of none older than the last entry of any
-- list that it knew before. A count stays at its greatest value.
pub record Wove (shift : ℕ) (before after : LoomValue) : Type 0 where
  pub new : List Repeat
  pub are : after.repeats ≡ before.repeats ++ new
  pub same : after ≡ record before { end = after.end; repeats = after.repeats; spare = after.spare }
  pub spare : after.spare + length new ≡ before.spare
  pub later : IsPrefix (list_of before) (list_of after)
  pub knows : (told : List Version) → Knows told before → Knows told after
  pub woven : (told : List Version) → Knows told before → AreOf before shift (length told - 1) (list_of after) new
  pub readings : min (readings_of before + length new) (2 ^ 64 - 1) ≤ readings_of after
  pub no_more : readings_of after ≤ readings_of before + length new
  pub missed : missed_of before ≤ missed_of after

-- the last repeat of the loom is of the last entry of the list that its end saw last
abbrev pub EndWithNewest : LoomValue → Type 0
EndWithNewest loom = IsSomeAnd (slice_get loom.repeats (length loom.repeats - 1)) (λ woven. woven.version + 1 ≡ length (list_of loom))
