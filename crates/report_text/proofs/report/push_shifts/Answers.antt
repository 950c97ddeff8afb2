use Rattle.std.proofs.Common.{[], arith}
use Rattle.report_text.specs.Reports.{shift_lines}
use Rattle.report_text.proofs.Texts.{one_more}
use Rattle.report_text.proofs.report.push_shifts.Goals as goal

pub loop-shift-preserved : goal.loop-shift-preserved
loop-shift-preserved c =
    one_more (λ shift _. shift_lines c.args.session.now c.args.log.now shift) c.args.session.now.shifts c.loop-shift.shift (record { repeats = []; painters = [] })
    c.args.out.now.items c.loop-shift.out.items c.push_shift.new.out.items (omega (arith, c.loop-shift-test.true, c.len-shift-end.ensures)) c.loop-shift.invariant
    c.in_ok-push_shift.ensures
