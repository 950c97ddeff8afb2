use Rattle.std.proofs.Common.{◌≡◌, ◌++◌, take}
use Rattle.report_text.specs.Reports.{act_lines}
use Rattle.report_text.proofs.report.push_acts.Given as goal

abbrev pub invariant-loop-act : goal.invariant-loop-act
invariant-loop-act l = l.out.items ≡ l.initial.out.items ++ act_lines l.shift (take l.act l.entries)
