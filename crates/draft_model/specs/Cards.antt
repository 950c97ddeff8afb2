-- The card of a pick, what the machine lifts by it, and how a cloth that lies face down is read.
use Rattle.std.specs.Prelude.{ℕ, Bool, false, not, List, length, map, slice_index, slice_index_or}
use Rattle.mill_base.specs.declared.face.Face.{Face}
use Rattle.mill_base.specs.declared.face.Face.TheVariants.{Up, Down}
use Rattle.mill_base.specs.Lines.{line_by}
use Rattle.casting_out.specs.Castings.{CastingValue}
use Rattle.casting_out.specs.Cards.{card as card_of_row}
use Rattle.point_paper.specs.Papers.{BitCells, bit_row}

-- the card of a pick of a bit paper, hook by hook
abbrev pub card : CastingValue → BitCells → Face → ℕ → List Bool
card casting bits face pick = card_of_row casting.hooks casting.columns face (bit_row bits pick)

-- what the machine lifts by a card: each end where the card has a hole at the hook of the end's column
unfoldable pub lift : List ℕ → CastingValue → List Bool → List Bool
lift tie casting card = line_by (length tie) (λ e. slice_index_or card (slice_index casting.columns (slice_index tie e)) false)

-- the row of the cloth as it is read on its face: a cloth that lies face down shows each cell the other way round
abbrev pub woven : Face → List Bool → List Bool
woven Up row = row
woven Down row = map not row
