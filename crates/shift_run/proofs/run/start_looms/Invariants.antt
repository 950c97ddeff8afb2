use Rattle.std.proofs.Common.{◌≡◌}
use Rattle.shift_run.specs.Runs.{AreNew}
use Rattle.shift_run.proofs.run.start_looms.Given as goal

abbrev pub invariant-looms : goal.invariant-looms
invariant-looms l = record {
  looms : AreNew l.session l.number l.looms.items;
  core : l.desk.core ≡ l.initial.desk.core;
  list : l.desk.end.list ≡ l.initial.desk.end.list;
}
