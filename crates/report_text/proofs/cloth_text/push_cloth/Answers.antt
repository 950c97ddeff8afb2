use Rattle.std.proofs.Common.{[], ◌++◌, ap, ◌∙◌, arith}
use Rattle.report_text.specs.Reports.{row_line}
use Rattle.report_text.proofs.Texts.{one_more}
use Rattle.report_text.proofs.cloth_text.push_cloth.Goals as goal

pub loop-pick-preserved : goal.loop-pick-preserved
loop-pick-preserved c =
    one_more row_line c.args.cloth.now.rows c.loop-pick.pick [] c.args.out.now.items c.loop-pick.out.items c.push_row.new.out.items
    (omega (arith, c.loop-pick-test.true, c.picks-pick-end.ensures)) c.loop-pick.invariant
    (c.in_ok-push_row.ensures ∙ ap (λ row. c.loop-pick.out.items ++ row_line c.loop-pick.pick row) c.row.ensures.row)
