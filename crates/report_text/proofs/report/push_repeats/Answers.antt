use Rattle.std.proofs.Common.{◌++◌, ap, ◌∙◌}
use Rattle.report_text.specs.Reports.{repeat_in_shift}
use Rattle.report_text.proofs.Texts.{one_more}
use Rattle.report_text.proofs.report.push_repeats.Goals as goal

pub loop-number-preserved : goal.loop-number-preserved
loop-number-preserved c =
    one_more (repeat_in_shift c.args.shift c.args.face c.args.loom) c.args.repeats.now c.loop-number.number c.index-repeats-number.result c.args.out.now.items
    c.loop-number.out.items c.push_repeat.new.out.items c.loop-number-test.true c.loop-number.invariant
    (c.in_ok-push_repeat.ensures
    ∙ ap (λ woven. c.loop-number.out.items ++ repeat_in_shift c.args.shift c.args.face c.args.loom c.loop-number.number woven) c.index-repeats-number.is)
