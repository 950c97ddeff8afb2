-- What a checker keeps of the lines that it has read.
use Rattle.std.specs.Prelude.{◌≡◌, ℕ, ◌<◌, ◌≤◌, true, false, not, List, ◌∷◌, ◌++◌, length, map, drop, slice_get, slice_index, Option, Some, None, [], All}
use Rattle.mill_base.specs.declared.face.Face.{Face}
use Rattle.mill_base.specs.declared.face.Face.TheVariants.{Up, Down}
use Rattle.point_paper.specs.Papers.{PaperCells}
use Rattle.draft_model.specs.Cloths.{ClothCells}
use Rattle.draft_model.specs.Designs.{IsPaperOf}
use Rattle.draft_model.specs.declared.design.Design.{Design}
use Rattle.version_journal.specs.Entries.{is_accepted}
use Rattle.version_journal.specs.Journals.{paper_after}
use Rattle.version_journal.specs.declared.entry.Reply.{Reply}
use Rattle.version_journal.specs.declared.run_log.Repeat.{Repeat}
use Rattle.session_file.specs.declared.session.Session.{Session}
use Rattle.loom_threads.specs.Woven.{digest_of, lifted}
use Rattle.shift_model.specs.Logs.{accepted_before}
use Rattle.audit_model.specs.Reads.{Reaches}
use Rattle.audit_model.specs.States.{State, done_of, entries_of, named_acts, painters_of, versions_of, woven_of}
use Rattle.audit_report.specs.declared.digests.Digests.{Digests}
use Rattle.audit_report.specs.declared.checker.Checker.{Checker}

-- where the report has come to, and the lines that must come next
abbrev pub state_of : Checker → State
state_of checker = record {
  shift = checker.shift;
  before = record { entries = checker.before.items; looms = checker.woven_before.items };
  new = checker.recent.items;
  woven = checker.woven.items;
  ended = checker.ended;
}

abbrev pub coming_of : Checker → List (List ℕ)
coming_of checker = drop checker.next checker.coming.items

-- the digest of the cloth that a loom of a face weaves of the paper
abbrev pub digest_by : Digests → Face → List ℕ
digest_by digests Up = digests.up
digest_by digests Down = digests.down

pub record AreDigests (design : Design) (paper : PaperCells) (digests : Digests) : Type 0 where
  pub each : (face : Face) → digest_by digests face ≡ digest_of (lifted design face paper)

-- no version below the least one of a loom may come next at it, and every later one may
pub record IsLeast (session : Session) (s : State) (least : List ℕ) (loom : ℕ) : Type 0 where
  pub up : (version : ℕ) → slice_index least loom ≤ version
      → (accepted_before s.shift (entries_of s) ≤ version) × All (λ (earlier : Repeat). earlier.version ≤ version) (woven_of s loom)
  pub down : (version : ℕ) → accepted_before s.shift (entries_of s) ≤ version → All (λ (earlier : Repeat). earlier.version ≤ version) (woven_of s loom)
      → slice_index least loom ≤ version

-- the digests are those of the versions, one for each
pub record AreOfVersions (design : Design) (versions : List PaperCells) (digests : List Digests) : Type 0 where
  pub count : length digests ≡ length versions
  pub each : (version : ℕ) (paper : PaperCells) (d : Digests) → slice_get versions version ≡ Some paper → slice_get digests version ≡ Some d → AreDigests design paper d

-- the digests of the list once an act with this reply is done
pub record AddsDigests (design : Design) (paper : PaperCells) (reply : Reply) (old new : List Digests) : Type 0 where
  pub same : is_accepted reply ≡ false → new ≡ old
  pub more : is_accepted reply ≡ true → (d : Digests) × AreDigests design paper d × (new ≡ old ++ d ∷ [])

-- The numbers beside a state are those of the state: how many acts of each painter are done, which version may come next at each loom,
-- the paper as it is now, and the digests of each version.
pub record KeepsFor (session : Session) (s : State) (done least : List ℕ) (paper : PaperCells) (digests : List Digests) : Type 0 where
  pub painters : length done ≡ painters_of session s
  pub counts : (painter : ℕ) → painter < painters_of session s → slice_index done painter ≡ done_of s painter
  pub looms : length least ≡ session.looms
  pub lowest : (loom : ℕ) → loom < session.looms → IsLeast session s least loom
  pub present : paper ≡ paper_after session.design session.opening (named_acts session (entries_of s))
  pub of_design : IsPaperOf session.design paper
  pub of_versions : AreOfVersions session.design (versions_of session s) digests

abbrev pub Keeps : Session → Checker → Type 0
Keeps session checker = KeepsFor session (state_of checker) checker.done.items checker.least.items checker.paper checker.digests.items

-- the bytes were read
pub record Holds (session : Session) (checker : Checker) (bytes : List ℕ) : Type 0 where
  pub reached : Reaches session bytes (state_of checker) (coming_of checker)
  pub keeps : Keeps session checker

-- a cloth, seen from its other side
abbrev pub turned : ClothCells → ClothCells
turned cloth = record { ends = cloth.ends; rows = map (map not) cloth.rows }

-- the digest for a face of the version of a number
abbrev pub digest_in : Option Digests → Face → List ℕ
digest_in None face = []
digest_in (Some digests) face = digest_by digests face

abbrev pub digest_at : List Digests → ℕ → Face → List ℕ
digest_at digests version face = digest_in (slice_get digests version) face
