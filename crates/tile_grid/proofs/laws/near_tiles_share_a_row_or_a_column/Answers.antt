use Rattle.tile_grid.proofs.lemmas.Splits.{near_is_split}
use Rattle.tile_grid.proofs.laws.near_tiles_share_a_row_or_a_column.Goals as goal

pub returns : goal.returns
returns c = near_is_split
