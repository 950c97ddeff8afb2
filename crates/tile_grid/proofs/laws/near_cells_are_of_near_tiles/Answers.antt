use Rattle.tile_grid.proofs.lemmas.Tiles.{tile_there}
use Rattle.tile_grid.proofs.Places.{near_of_cells, near_of_ends, near_of_picks}
use Rattle.tile_grid.proofs.laws.near_cells_are_of_near_tiles.Goals as goal

pub returns-clause-there : goal.returns-clause-there
returns-clause-there c = tile_there

pub returns-clause-cells : goal.returns-clause-cells
returns-clause-cells c = near_of_cells

pub returns-clause-ends : goal.returns-clause-ends
returns-clause-ends c = near_of_ends

pub returns-clause-picks : goal.returns-clause-picks
returns-clause-picks c = near_of_picks
