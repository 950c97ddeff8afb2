use Rattle.std.proofs.Common.{refl}
use Rattle.tile_grid.specs.Tiles.{tiles_along}
use Rattle.tile_rebuild.proofs.part.tiles_along.Goals as goal

pub returns : goal.returns
unfolding tiles_along
returns c = refl
