use Rattle.std.proofs.Common.{◌++◌, ap, ◌∙◌, slice_index_or}
use Rattle.mill_base.specs.declared.face.Face.TheVariants.{Up}
use Rattle.report_text.specs.Reports.{loom_lines}
use Rattle.report_text.proofs.Texts.{one_more}
use Rattle.report_text.proofs.report.push_looms.Goals as goal

pub loop-loom-preserved : goal.loop-loom-preserved
loop-loom-preserved c =
    one_more (λ loom repeats. loom_lines c.args.shift (slice_index_or c.args.faces.now loom Up) loom repeats) c.args.looms.now c.loop-loom.loom c.index-looms-loom.result
    c.args.out.now.items c.loop-loom.out.items c.push_repeats.new.out.items c.loop-loom-test.true c.loop-loom.invariant
    (c.in_ok-push_repeats.ensures
    ∙ ap (λ face. c.loop-loom.out.items ++ loom_lines c.args.shift face c.loop-loom.loom c.as_slice.result.now) c.face_at.ensures
    ∙ ap (λ repeats. c.loop-loom.out.items ++ loom_lines c.args.shift (slice_index_or c.args.faces.now c.loop-loom.loom Up) c.loop-loom.loom repeats)
    (c.as_slice.ensures ∙ c.index-looms-loom.is))
