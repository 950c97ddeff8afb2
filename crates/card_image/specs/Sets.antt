-- What contracts see of a set of cards, and which cards are cut and turned.
use Rattle.std.specs.Prelude.{ℕ, ◌==◌, Bool, false, not, ◌&&◌, List, length, map, slice_index, slice_index_or}
use Rattle.mill_base.specs.Below.{any_below}
use Rattle.mill_base.specs.Lines.{line_by}
use Rattle.mill_base.specs.declared.face.Face.{Face}
use Rattle.mill_base.specs.declared.face.Face.TheVariants.{Up, Down}
use Rattle.casting_out.specs.Castings.{CastingValue}
use Rattle.point_paper.specs.Papers.{BitCells, PaperCells}
use Rattle.draft_model.specs.declared.design.Design.{Design}
use Rattle.draft_model.specs.Cards.{card}
use Rattle.draft_model.specs.Drawdowns.{bound}

-- what cards are for: how many hooks the machine has, how many picks the cloth has, and the hook of each column
pub record CardDesign : Type 0 where
  pub hooks : ℕ
  pub picks : ℕ
  pub columns : List ℕ

-- a set of cards: what it is for, the face of its cloth, and the holes of each card, hook by hook
pub record CardsValue : Type 0 where
  pub design : CardDesign
  pub face : Face
  pub holes : List (List Bool)

-- what the cards of so many picks are for, by the casting of the machine
abbrev pub design_by : CastingValue → ℕ → CardDesign
design_by casting picks = record { hooks = casting.hooks; picks = picks; columns = casting.columns }

-- a column hangs on the hook
abbrev pub hangs : List ℕ → ℕ → Bool
hangs columns hook = any_below (λ c. slice_index columns c == hook) (length columns)

-- the card has a hole at the hook
abbrev pub hole_of : List Bool → ℕ → Bool
hole_of card hook = slice_index_or card hook false

-- the face-up cards of a bit paper, one for each pick
abbrev pub cards_up : CastingValue → BitCells → List (List Bool)
cards_up casting bits = line_by (length bits.rows) (card casting bits Up)

-- the cards of a bit paper of a design, for a cloth that lies face up
abbrev pub cards_by : Design → BitCells → CardsValue
cards_by design bits = record { design = design_by design.casting (length bits.rows); face = Up; holes = cards_up design.casting bits }

-- the cards of a paper: those of its bound paper
abbrev pub cards_of : Design → PaperCells → CardsValue
cards_of design paper = cards_by design (bound design paper)

abbrev pub other_face : Face → Face
other_face Up = Down
other_face Down = Up

-- a turned card has a hole exactly at the columns' hooks where the card has none
abbrev pub turned_card : ℕ → List ℕ → List Bool → List Bool
turned_card hooks columns card = line_by hooks (λ h. hangs columns h && not (hole_of card h))

-- a turned set has all such cards, of the other face
abbrev pub turned_set : CastingValue → CardsValue → CardsValue
turned_set casting set = record {
  design = design_by casting set.design.picks;
  face = other_face set.face;
  holes = map (turned_card casting.hooks casting.columns) set.holes;
}
