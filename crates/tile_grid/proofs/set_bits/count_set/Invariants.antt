use Rattle.std.proofs.Common.{◌≡◌, ◌*◌, ◌≤◌}
use Rattle.mill_base.specs.Below.{count_below}
use Rattle.mill_base.specs.Bits.{bit_of}
use Rattle.tile_grid.proofs.set_bits.count_set.Given as goal

abbrev pub invariant-loop-index : goal.invariant-loop-index
invariant-loop-index l = record {
  few : l.total ≤ 64 * l.index;
  count : l.total ≡ count_below (bit_of l.words) (64 * l.index);
}
