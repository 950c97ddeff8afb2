use Rattle.std.proofs.Common.{◌≡◌, map}
use Rattle.std.specs.List.{concat}
use Rattle.sha2.specs.Hashers.{Holds256}
use Rattle.mill_base.specs.Bits.{packed}
use Rattle.mill_base.specs.Lines.{line_by}
use Rattle.loom_threads.specs.Lifts.{row_from}
use Rattle.loom_threads.proofs.lifter.Lifter.digest.Given as goal

abbrev pub invariant-loop-pick : goal.invariant-loop-pick
invariant-loop-pick l = record {
  same : l.self ≡ l.initial.self;
  hashed : Holds256 l.hasher (concat (map packed (line_by l.pick (row_from l.initial.self.machine l.initial.self.face l.cards.holes))));
}
