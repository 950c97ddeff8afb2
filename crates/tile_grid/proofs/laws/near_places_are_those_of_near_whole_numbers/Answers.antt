use Rattle.std.proofs.Common.{arith}
use Rattle.tile_grid.proofs.WholeNumbers.{turned_of_near, near_of_turned}
use Rattle.tile_grid.proofs.laws.near_places_are_those_of_near_whole_numbers.Goals as goal

pub returns : goal.returns
returns c n limit x y hx hy = (turned_of_near n limit x y hx hy, near_of_turned n limit x y (omega arith))
