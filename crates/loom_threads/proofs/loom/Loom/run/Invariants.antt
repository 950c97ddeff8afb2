use Rattle.std.proofs.Common.{◌≡◌, ◌+◌, ◌<◌, ◌≤◌, length}
use Rattle.loom_threads.specs.Looms.{EndWithNewest, IsTold, Wove, missed_of}
use Rattle.loom_threads.proofs.loom.Loom.run.Given as goal

abbrev pub invariant-repeats : goal.invariant-repeats
invariant-repeats g l = record {
  wove : Wove l.shift l.initial.self l.self;
  told : IsTold l.self;
  count : length l.self.repeats ≡ length l.initial.self.repeats + l.counter;
  missed : missed_of l.self ≡ missed_of l.initial.self;
  newest : 0 < l.counter → EndWithNewest l.self;
}
