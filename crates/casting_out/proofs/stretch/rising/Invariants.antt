use Rattle.std.proofs.Common.{◌≡◌, ◌+◌, ◌-◌, ◌<◌, ◌≤◌, ℕ, get_or, length}
use Rattle.casting_out.proofs.stretch.rising.Given as goal

abbrev pub invariant-loop-count : goal.invariant-loop-count
invariant-loop-count l = record {
  some : 0 < l.count;
  room : l.column + l.count ≤ length l.columns;
  hooks : (i : ℕ) → i < l.count → get_or l.columns (l.column + i) 0 ≡ get_or l.columns l.column 0 + i;
}

abbrev pub decreases-loop-count : goal.decreases-loop-count
decreases-loop-count l = length l.columns - l.count
