use Rattle.std.proofs.Common.{◌≡◌, false}
use Rattle.shift_run.specs.Runs.{IsAtShift}
use Rattle.shift_run.proofs.run.run_shifts.Given as goal

abbrev pub invariant-shifts : goal.invariant-shifts
invariant-shifts g l = record {
  at : IsAtShift l.session l.shift l.end.desk l.end.looms.items;
  enough : l.end.out_of_memory ≡ false;
}
