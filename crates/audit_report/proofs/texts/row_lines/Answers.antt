use Rattle.std.proofs.Common.{[], ◌∷◌, ◌++◌, sym, ap, ◌∙◌, arith}
use Rattle.report_text.specs.Reports.{row_line}
use Rattle.audit_model.specs.Lines.{lines_of_rows}
use Rattle.std.proofs.Common.{take}
use Rattle.audit_report.proofs.Rows.{rows_more}
use Rattle.audit_report.proofs.texts.row_lines.Goals as goal

pub loop-pick-preserved : goal.loop-pick-preserved
loop-pick-preserved c =
    let k = c.loop-pick.pick in
    let rows = c.args.cloth.now.rows in
    c.in_ok-push.ensures.items ∙ ap (λ l. l ++ c.in_ok-line.line ∷ []) c.loop-pick.invariant
    ∙ ap (λ l. lines_of_rows 0 (take k rows) ++ l ∷ []) (c.in_ok-line.ensures ∙ ap (row_line k) c.row.ensures.row)
    ∙ sym (rows_more rows k [] (omega (arith, c.loop-pick-test.true, c.picks-pick-end.ensures)))
