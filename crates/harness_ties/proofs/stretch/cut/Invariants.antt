use Rattle.std.proofs.Common.{◌≡◌, ◌+◌, ◌-◌, ◌<◌, ◌≤◌, ℕ, length, get_or, take, All}
use Rattle.std.specs.List.{AllAdjacentBelow}
use Rattle.harness_ties.specs.declared.stretch.Stretch.{Stretch}
use Rattle.harness_ties.specs.inner.Stretches.{IsLongest, IsStretch, written_out}
use Rattle.harness_ties.proofs.stretch.cut.Given as goal

abbrev pub invariant-loop-end : goal.invariant-loop-end
invariant-loop-end l = record {
  room : l.end ≤ length l.tie;
  there : All (λ s. IsStretch l.columns s) l.stretches.items;
  tie : written_out l.stretches.items ≡ take l.end l.tie;
  longest : AllAdjacentBelow (λ s next. IsLongest s next.column) l.stretches.items (length l.stretches.items);
  last : (k : ℕ) (d : Stretch) → k + 1 ≡ length l.stretches.items → l.end < length l.tie → IsLongest (get_or l.stretches.items k d) (get_or l.tie l.end 0);
}

abbrev pub decreases-loop-end : goal.decreases-loop-end
decreases-loop-end l = length l.tie - l.end
