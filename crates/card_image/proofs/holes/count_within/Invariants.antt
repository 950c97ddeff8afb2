use Rattle.std.proofs.Common.{◌≡◌, ◌≤◌, ◌*◌}
use Rattle.mill_base.specs.Below.{count_below}
use Rattle.card_image.proofs.Words.{low_bit, AreWithin}
use Rattle.card_image.proofs.holes.count_within.Given as goal

abbrev pub invariant-loop-index : goal.invariant-loop-index
invariant-loop-index l = record {
  few : l.count ≤ 64 * l.index;
  counted : l.count ≡ count_below (low_bit l.holes) (64 * l.index);
  within : AreWithin l.holes l.mask l.index;
}
