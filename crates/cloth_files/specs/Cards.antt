-- The cards of a paper, and the cloth that cards lift.
use Rattle.std.specs.Prelude.{Bool, List, length, map}
use Rattle.mill_base.specs.Lines.{line_by}
use Rattle.mill_base.specs.declared.face.Face.{Face}
use Rattle.point_paper.specs.Papers.{PaperCells}
use Rattle.draft_model.specs.Cards.{card, lift, woven}
use Rattle.draft_model.specs.Cloths.{ClothCells}
use Rattle.draft_model.specs.Drawdowns.{bound}
use Rattle.draft_model.specs.declared.design.Design.{Design}

-- the cards of a paper for a face, one for each pick
abbrev pub paper_cards : Design → Face → PaperCells → List (List Bool)
paper_cards design face paper = line_by paper.picks (card design.casting (bound design paper) face)

-- the cloth that is lifted card by card, each row read on the face
abbrev pub cloth_of_cards : Design → Face → List (List Bool) → ClothCells
cloth_of_cards design face cards = record { ends = length design.tie.ends; rows = map (λ holes. woven face (lift design.tie.ends design.casting holes)) cards }
