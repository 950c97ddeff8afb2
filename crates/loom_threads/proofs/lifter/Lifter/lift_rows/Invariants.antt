use Rattle.std.proofs.Common.{◌≡◌, ◌<◌, ℕ, [], length, get_or}
use Rattle.loom_threads.specs.Lifts.{row_from}
use Rattle.loom_threads.proofs.lifter.Lifter.lift_rows.Given as goal

abbrev pub invariant-loop-pick : goal.invariant-loop-pick
invariant-loop-pick l = record {
  same : l.self ≡ l.initial.self;
  ends : l.cloth.ends ≡ l.initial.cloth.ends;
  picks : length l.cloth.rows ≡ length l.initial.cloth.rows;
  rows : (k : ℕ) → k < l.pick → get_or l.cloth.rows k [] ≡ row_from l.initial.self.machine l.initial.self.face l.cards.holes k;
}
