use Rattle.std.proofs.Common.{◌≡◌, ◌+◌, ◌*◌}
use Rattle.mill_base.specs.Below.{count_below}
use Rattle.mill_base.specs.Bits.{bit_of}
use Rattle.tile_grid.proofs.set_bits.nth_in_word.Given as goal

abbrev pub invariant-loop-at : goal.invariant-loop-at
invariant-loop-at l = count_below (bit_of l.words) (64 * l.index + l.at) + l.left ≡ count_below (bit_of l.words) (64 * l.index) + l.k
