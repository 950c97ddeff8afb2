use Rattle.std.proofs.Common.{◌≡◌, ◌<◌, ℕ, length, slice_index}
use Rattle.tile_grid.specs.inner.Tables.{IsTable}
use Rattle.tile_grid.specs.inner.Walks.{count_at, near_so_far}
use Rattle.tile_grid.proofs.walk.go_round.Given as goal

abbrev pub invariant-loop-x : goal.invariant-loop-x
invariant-loop-x l = record {
  len : length l.window ≡ length l.initial.window;
  row : length l.row ≡ length l.initial.window;
  counts : (b : ℕ) → b < length l.initial.window → slice_index l.window b ≡ count_at l.kinds l.limit l.x b;
  table : IsTable (length l.initial.window) (near_so_far l.kinds l.limit l.x) l.near;
}
