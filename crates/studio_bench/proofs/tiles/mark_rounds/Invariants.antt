use Rattle.std.proofs.Common.{◌≡◌, length}
use Rattle.tile_grid.specs.Tiles.{tiles}
use Rattle.studio_bench.proofs.tiles.mark_rounds.Given as goal

abbrev pub invariant-loop-round : goal.invariant-loop-round
invariant-loop-round l = length l.marks ≡ tiles l.grid
