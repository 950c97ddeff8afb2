-- A loom's machine, and the holes that it reads from a card.
use Rattle.std.specs.Prelude.{◌≡◌, ◌<◌, ℕ, ◌-◌, ◌/◌, ◌%◌, ◌==◌, List, Bool, All, length, slice_index}
use Rattle.std.specs.Int.{bit_at}
use Rattle.mill_base.specs.Lines.{line_by}
use Rattle.harness_ties.specs.Ties.{TieValue}
use Rattle.casting_out.specs.Castings.{CastingValue}

-- what contracts see of a machine: the column of each end, and the hook of each column
pub record MachineValue : Type 0 where
  pub tie : TieValue
  pub casting : CastingValue

-- tie and casting are for the same columns
pub record IsMachine (machine : MachineValue) : Type 0 where
  pub columns : length machine.casting.columns ≡ machine.tie.columns
  pub tied : All (λ column. column < length machine.casting.columns) machine.tie.ends

-- the holes of a packed card, hook by hook: hook h stands in bit 7 - h mod 8 of byte h div 8
unfoldable pub holes_in : ℕ → List ℕ → List Bool
holes_in hooks card = line_by hooks (λ h. bit_at (slice_index card (h / 8)) (7 - h % 8) == 1)
