use Rattle.std.proofs.Common.{◌≡◌, ◌<◌, ℕ, [], length, get_or}
use Rattle.loom_threads.proofs.weaver.copy_rows.Given as goal

abbrev pub invariant-loop-pick : goal.invariant-loop-pick
invariant-loop-pick l = record {
  ends : l.to.ends ≡ l.initial.to.ends;
  picks : length l.to.rows ≡ length l.initial.to.rows;
  rows : (k : ℕ) → k < l.pick → get_or l.to.rows k [] ≡ get_or l.from.rows k [];
}
