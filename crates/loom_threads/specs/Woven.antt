-- The cloth that a loom lifts from the cards of a version, its digest, and a woven repeat.
use Rattle.std.specs.Prelude.{◌≡◌, ℕ, Bool, List, length, map, slice_get, Some, None, if◌then◌else◌}
use Rattle.std.specs.List.{concat}
use Rattle.mill_base.specs.Bits.{packed}
use Rattle.mill_base.specs.Lines.{line_by}
use Rattle.mill_base.specs.declared.face.Face.{Face}
use Rattle.sha2.specs.Sha256.{sha256}
use Rattle.point_paper.specs.Papers.{PaperCells}
use Rattle.draft_model.specs.Cards.{card, lift}
use Rattle.draft_model.specs.Cloths.{ClothCells}
use Rattle.draft_model.specs.Drawdowns.{bound}
use Rattle.draft_model.specs.declared.design.Design.{Design}
use Rattle.version_journal.specs.declared.run_log.Repeat.{Repeat}

-- the rows that a loom of a face lifts from the cards of a paper, from pick 0 on
abbrev pub lifted_rows : Design → Face → PaperCells → List (List Bool)
lifted_rows design face paper =
    line_by paper.picks (λ pick. lift design.tie.ends design.casting (card design.casting (bound design paper) face pick))

abbrev pub lifted : Design → Face → PaperCells → ClothCells
lifted design face paper = record { ends = length design.tie.ends; rows = lifted_rows design face paper }

-- the digest of a cloth: SHA-256 (FIPS 180-4) of its rows from pick 0 on, each packed
abbrev pub digest_of : ClothCells → List ℕ
digest_of cloth = sha256 (concat (map packed cloth.rows))

-- the repeat of a cloth
abbrev pub repeat_of : ℕ → ℕ → Bool → ClothCells → Repeat
repeat_of shift version shown cloth = record { shift = shift; version = version; digest = digest_of cloth; rows = if shown then Some cloth else None }

-- A loom of this face wove the repeat from one version, from its first pick to its last: its rows are those that the machine lifts from the
-- version's cards, of which it has the digest, and the rows themselves where they are shown.
pub record IsWoven (design : Design) (shown : Bool) (face : Face) (versions : List PaperCells) (woven : Repeat) : Type 0 where
  pub paper : PaperCells
  pub version : slice_get versions woven.version ≡ Some paper
  pub digest : woven.digest ≡ digest_of (lifted design face paper)
  pub rows : woven.rows ≡ (if shown then Some (lifted design face paper) else None)
