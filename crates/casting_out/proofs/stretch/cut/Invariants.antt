use Rattle.std.proofs.Common.{◌≡◌, ◌≢◌, ◌+◌, ◌-◌, ◌<◌, ◌≤◌, ℕ, length, get_or, take, All}
use Rattle.std.specs.List.{AllAdjacentBelow}
use Rattle.casting_out.specs.declared.stretch.Stretch.{Stretch}
use Rattle.casting_out.specs.inner.Stretches.{IsStretch, written_out}
use Rattle.casting_out.proofs.stretch.cut.Given as goal

abbrev pub invariant-loop-column : goal.invariant-loop-column
invariant-loop-column l = record {
  room : l.column ≤ length l.columns;
  there : All (λ s. IsStretch l.hooks s) l.stretches.items;
  columns : written_out l.stretches.items ≡ take l.column l.columns;
  longest : AllAdjacentBelow (λ s next. next.hook ≢ s.hook + s.count) l.stretches.items (length l.stretches.items);
  last : (k : ℕ) (d : Stretch) → k + 1 ≡ length l.stretches.items → l.column < length l.columns → get_or l.columns l.column 0 ≢ (get_or l.stretches.items k d).hook + (get_or l.stretches.items k d).count;
}

abbrev pub decreases-loop-column : goal.decreases-loop-column
decreases-loop-column l = length l.columns - l.column
