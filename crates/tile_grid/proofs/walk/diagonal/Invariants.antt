use Rattle.std.proofs.Common.{◌==◌, ◌&&◌}
use Rattle.std.specs.Prelude.{nat_lt}
use Rattle.tile_grid.specs.inner.Tables.{IsTable}
use Rattle.tile_grid.proofs.walk.diagonal.Given as goal

abbrev pub invariant-loop-kind : goal.invariant-loop-kind
invariant-loop-kind l = IsTable l.count (λ a b. a == b && nat_lt a l.kind) l.near
