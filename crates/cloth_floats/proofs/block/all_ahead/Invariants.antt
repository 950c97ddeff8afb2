use Rattle.std.proofs.Common.{◌≡◌, ◌+◌, ◌-◌, ◌<◌, ◌≤◌, length}
use Rattle.mill_base.specs.Below.{all_below}
use Rattle.mill_base.specs.Lines.{line_by}
use Rattle.mill_base.specs.Lines.{cell_round}
use Rattle.cloth_floats.proofs.block.all_ahead.Given as goal

abbrev pub invariant-loop-width : goal.invariant-loop-width
invariant-loop-width l = record {
  some : 0 < l.width;
  within : l.width ≤ l.count;
  found : l.found ≡ line_by (length l.fn.found) (λ k. all_below (λ j. cell_round l.fn.found (k + j)) l.width);
}

abbrev pub decreases-loop-width : goal.decreases-loop-width
decreases-loop-width l = l.count - l.width
