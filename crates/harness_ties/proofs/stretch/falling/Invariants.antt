use Rattle.std.proofs.Common.{◌≡◌, ◌+◌, ◌-◌, ◌<◌, ◌≤◌, ℕ, get_or, length}
use Rattle.harness_ties.proofs.stretch.falling.Given as goal

abbrev pub invariant-loop-count : goal.invariant-loop-count
invariant-loop-count l = record {
  some : 0 < l.count;
  room : l.end + l.count ≤ length l.tie;
  columns : (i : ℕ) → i < l.count → get_or l.tie (l.end + i) 0 + i ≡ get_or l.tie l.end 0;
}

abbrev pub decreases-loop-count : goal.decreases-loop-count
decreases-loop-count l = length l.tie - l.count
