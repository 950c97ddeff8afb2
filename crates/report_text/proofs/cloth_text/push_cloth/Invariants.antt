use Rattle.std.proofs.Common.{◌≡◌, ◌++◌, take}
use Rattle.report_text.specs.Reports.{cloth_lines}
use Rattle.report_text.proofs.cloth_text.push_cloth.Given as goal

abbrev pub invariant-loop-pick : goal.invariant-loop-pick
invariant-loop-pick l = l.out.items ≡ l.initial.out.items ++ cloth_lines (take l.pick l.cloth.rows)
