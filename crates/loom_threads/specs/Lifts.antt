-- What the machine of a loom lifts from face-up cards, for a cloth that lies on a face.
use Rattle.std.specs.Prelude.{ℕ, List, Bool, [], length, slice_index_or}
use Rattle.mill_base.specs.Lines.{line_by}
use Rattle.mill_base.specs.declared.face.Face.{Face}
use Rattle.mill_base.specs.declared.face.Face.TheVariants.{Up, Down}
use Rattle.casting_out.specs.Castings.{CastingValue}
use Rattle.draft_model.specs.Cards.{lift}
use Rattle.draft_model.specs.Cloths.{ClothCells}
use Rattle.card_image.specs.Sets.{CardsValue, turned_card}
use Rattle.loom_machine.specs.Machines.{MachineValue}

-- a face-up card as a loom of a face uses it: a loom whose cloth lies face down turns it
abbrev pub faced : CastingValue → Face → List Bool → List Bool
faced casting Up card = card
faced casting Down card = turned_card casting.hooks casting.columns card

-- the row that is lifted from the card of a pick
abbrev pub row_from : MachineValue → Face → List (List Bool) → ℕ → List Bool
row_from machine face holes pick = lift machine.tie.ends machine.casting (faced machine.casting face (slice_index_or holes pick []))

-- the cloth that is lifted from cards, a row for each from pick 0 on
abbrev pub cloth_from : MachineValue → Face → CardsValue → ClothCells
cloth_from machine face cards = record { ends = length machine.tie.ends; rows = line_by cards.design.picks (row_from machine face cards.holes) }
