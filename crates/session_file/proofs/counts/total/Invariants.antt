use Rattle.std.proofs.Common.{◌≡◌, sum_by, take}
use Rattle.session_file.specs.Counts.{told}
use Rattle.session_file.proofs.counts.total.Given as goal

abbrev pub invariant-loop-item : goal.invariant-loop-item
invariant-loop-item g l = l.sum ≡ told (sum_by g.M.Measure.count (take l.item-index l.items))
