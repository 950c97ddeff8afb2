use Rattle.std.proofs.Common.{◌≡◌, ◌++◌, take}
use Rattle.report_text.specs.Reports.{lines_from, shift_lines}
use Rattle.report_text.proofs.report.push_shifts.Given as goal

abbrev pub invariant-loop-shift : goal.invariant-loop-shift
invariant-loop-shift l = l.out.items ≡ l.initial.out.items ++ lines_from 0 (λ shift _. shift_lines l.session l.log shift) (take l.shift l.session.shifts)
