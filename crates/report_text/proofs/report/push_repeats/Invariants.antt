use Rattle.std.proofs.Common.{◌≡◌, ◌++◌, take}
use Rattle.report_text.specs.Reports.{loom_lines}
use Rattle.report_text.proofs.report.push_repeats.Given as goal

abbrev pub invariant-loop-number : goal.invariant-loop-number
invariant-loop-number l = l.out.items ≡ l.initial.out.items ++ loom_lines l.shift l.face l.loom (take l.number l.repeats)
