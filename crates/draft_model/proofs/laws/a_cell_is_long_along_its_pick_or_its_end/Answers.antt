use Rattle.draft_model.proofs.lemmas.ClothLines.{long_by_lines}
use Rattle.draft_model.proofs.laws.a_cell_is_long_along_its_pick_or_its_end.Goals as goal

pub returns : goal.returns
returns c = long_by_lines
