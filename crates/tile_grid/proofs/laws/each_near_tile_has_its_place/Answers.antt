use Rattle.tile_grid.proofs.Places.{place_there, one_place}
use Rattle.tile_grid.proofs.laws.each_near_tile_has_its_place.Goals as goal

pub returns-clause-place : goal.returns-clause-place
returns-clause-place c = place_there

pub returns-clause-one : goal.returns-clause-one
returns-clause-one c = one_place
