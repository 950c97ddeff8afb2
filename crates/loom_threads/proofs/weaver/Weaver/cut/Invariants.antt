use Rattle.std.proofs.Common.{◌≡◌, ◌+◌, ◌-◌, ◌≤◌, length, take}
use Rattle.loom_threads.proofs.weaver.Weaver.cut.Given as goal

abbrev pub invariant-loop-self : goal.invariant-loop-self
invariant-loop-self l = record {
  enough : l.count ≤ length l.self.repeats;
  fewer : length l.self.repeats ≤ length l.initial.self.repeats;
  same : l.self ≡ record l.initial.self {
    repeats = take (length l.self.repeats) l.initial.self.repeats;
    spare = l.initial.self.spare + (length l.initial.self.repeats - length l.self.repeats);
  };
}

abbrev pub decreases-loop-self : goal.decreases-loop-self
decreases-loop-self l = length l.self.repeats
