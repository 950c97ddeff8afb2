use Rattle.std.proofs.Common.{◌≡◌, ◌≤◌, ◌*◌, ◌^◌, length, sum_by, take}
use Rattle.report_text.proofs.summary.count_repeats.Given as goal

abbrev pub invariant-loop-repeats : goal.invariant-loop-repeats
invariant-loop-repeats l = record {
  count : l.total ≡ sum_by length (take l.repeats-index l.looms);
  few : l.total ≤ l.repeats-index * 2 ^ 64;
}
