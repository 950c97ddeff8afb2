-- What weaves the repeats of a loom, with room for those that are to come.
use Rattle.std.specs.Prelude.{◌≡◌, ℕ, ◌-◌, Bool, List, length, slice_get, Option, Some, None, is_some, if◌then◌else◌}
use Rattle.std.specs.Option.{ForSome}
use Rattle.mill_base.specs.declared.face.Face.{Face}
use Rattle.draft_model.specs.Cloths.{ClothCells}
use Rattle.card_image.specs.Sets.{CardsValue}
use Rattle.loom_machine.specs.Machines.{MachineValue}
use Rattle.version_journal.specs.declared.run_log.Repeat.{Repeat}
use Rattle.loom_threads.specs.Lifts.{cloth_from}
use Rattle.loom_threads.specs.Woven.{digest_of}

-- what contracts see of it
pub record WeaverValue : Type 0 where
  pub machine : MachineValue
  pub picks : ℕ
  pub face : Face
  pub shown : Bool
  pub repeats : List Repeat
  pub spare : ℕ

-- a cloth of so many ends and picks
pub record HasSize (ends picks : ℕ) (cloth : ClothCells) : Type 0 where
  pub wide : cloth.ends ≡ ends
  pub high : length cloth.rows ≡ picks

-- a repeat has rows exactly where they are shown, in a cloth of so many ends and picks
pub record HasRows (ends picks : ℕ) (shown : Bool) (woven : Repeat) : Type 0 where
  pub there : is_some woven.rows ≡ shown
  pub size : ForSome woven.rows (HasSize ends picks)

-- a repeat is of this cloth: it has its digest, and its rows where they are shown
pub record IsOfCloth (shown : Bool) (cloth : ClothCells) (woven : Repeat) : Type 0 where
  pub digest : woven.digest ≡ digest_of cloth
  pub rows : woven.rows ≡ (if shown then Some cloth else None)

-- the last repeat, if there is one, is of the cloth that is lifted from these cards, if cards are kept
abbrev pub KeepsLast : MachineValue → Face → Bool → Option CardsValue → List Repeat → Type 0
KeepsLast machine face shown kept repeats =
    ForSome kept (λ cards. ForSome (slice_get repeats (length repeats - 1)) (IsOfCloth shown (cloth_from machine face cards)))
