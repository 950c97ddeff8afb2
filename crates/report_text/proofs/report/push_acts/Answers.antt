use Rattle.report_text.specs.Reports.{act_in_shift}
use Rattle.report_text.proofs.Texts.{one_more}
use Rattle.report_text.proofs.report.push_acts.Goals as goal

pub loop-act-preserved : goal.loop-act-preserved
loop-act-preserved c =
    one_more (act_in_shift c.args.shift) c.args.entries.now c.loop-act.act _ c.args.out.now.items c.loop-act.out.items c.push_act.new.out.items c.loop-act-test.true
    c.loop-act.invariant c.in_ok-push_act.ensures
