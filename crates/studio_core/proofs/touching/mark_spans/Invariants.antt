use Rattle.std.proofs.Common.{◌≡◌, ◌<◌, ◌||◌, ℕ, false, length, drop, get_or}
use Rattle.studio_core.specs.inner.Touched.{spans_touch}
use Rattle.studio_core.proofs.touching.mark_spans.Given as goal

abbrev pub invariant-loop-span : goal.invariant-loop-span
invariant-loop-span l = record {
  len : length l.set ≡ length l.initial.set;
  tiles : (u : ℕ) → u < length l.initial.set
      → (get_or l.set u false || spans_touch l.grid (drop l.span-index l.spans) u) ≡ (get_or l.initial.set u false || spans_touch l.grid l.spans u);
}
