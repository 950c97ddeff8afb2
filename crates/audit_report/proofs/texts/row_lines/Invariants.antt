use Rattle.std.proofs.Common.{◌≡◌, take}
use Rattle.audit_model.specs.Lines.{lines_of_rows}
use Rattle.audit_report.proofs.texts.row_lines.Given as goal

abbrev pub invariant-loop-pick : goal.invariant-loop-pick
invariant-loop-pick l = l.lines.items ≡ lines_of_rows 0 (take l.pick l.cloth.rows)
