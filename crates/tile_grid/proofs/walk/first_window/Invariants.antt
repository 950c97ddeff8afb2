use Rattle.std.proofs.Common.{◌≡◌, ◌<◌, ℕ, length, slice_index}
use Rattle.mill_base.specs.Below.{count_below}
use Rattle.tile_grid.specs.inner.Walks.{is_kind_at}
use Rattle.tile_grid.proofs.walk.first_window.Given as goal

abbrev pub invariant-loop-d : goal.invariant-loop-d
invariant-loop-d l = record {
  len : length l.window ≡ l.count;
  counts : (b : ℕ) → b < l.count → slice_index l.window b ≡ count_below (is_kind_at l.kinds l.limit 0 b) l.d;
}
