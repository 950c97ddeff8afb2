use Rattle.std.proofs.Common.{◌≡◌, ◌<◌, ◌≤◌, ℕ, [], ◌++◌, length, get_or}
use Rattle.audit_report.proofs.ending.join_repeats.Given as goal

abbrev pub invariant-loop-loom : goal.invariant-loop-loom
invariant-loop-loom l = record {
  many : length l.before.items ≡ length l.initial.before.items;
  woven : length l.woven.items ≡ length l.initial.woven.items;
  done : (i : ℕ) → i < l.loom → get_or l.before.items i [] ≡ get_or l.initial.before.items i [] ++ get_or l.initial.woven.items i [];
  rest : (i : ℕ) → l.loom ≤ i → get_or l.before.items i [] ≡ get_or l.initial.before.items i [];
  new : (i : ℕ) → l.loom ≤ i → get_or l.woven.items i [] ≡ get_or l.initial.woven.items i [];
}
