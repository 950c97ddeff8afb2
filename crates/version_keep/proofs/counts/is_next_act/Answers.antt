use Rattle.std.proofs.Common.{◌≡◌, ◌<◌, ◌+◌, ◌*◌, ℕ, length, ap, ◌∙◌, arith}
use Rattle.std.specs.Prelude.{slice_index}
use Rattle.session_file.specs.declared.session.ShiftPlan.{ShiftPlan}
use Rattle.shift_model.specs.Plans.{acts_of_painter, plan_of}
use Rattle.version_keep.specs.Blocks.{marks_of}
use Rattle.version_keep.proofs.Marked.{few_painters, next_none, next_there, no_painter}
use Rattle.version_keep.proofs.counts.is_next_act.Goals as goal

pub returns-then-mark-len-clause-next : goal.returns-then-mark-len-clause-next
returns-then-mark-len-clause-next c =
    no_painter c.args.session.now (marks_of c.args.core.now.entries) c.args.mark.now
    (omega (arith, c.if-mark-len.true, c.len.ensures, ap (λ (p : ShiftPlan). length p.painters) c.plan_of-plan.ensures))

pub returns-then-count-acts-clause-next : goal.returns-then-count-acts-clause-next
returns-then-count-acts-clause-next c =
    let mark = c.args.mark.now in
    let there : mark.painter < length (plan_of c.args.session.now mark.shift).painters = omega (arith, c.if-mark-len.false, c.len.ensures, ap (λ (p : ShiftPlan). length p.painters) c.plan_of-plan.ensures) in
    next_there c.args.session.now (marks_of c.args.core.now.entries) mark (slice_index c.args.counts.now (64 * mark.shift + mark.painter)) (length c.acts_of-acts.result.now)
    (c.requires.counts.each mark.shift mark.painter c.requires.shift (omega (arith, there, few_painters c.args.session.now mark.shift c.requires.fits c.requires.shift)))
    (ap length (c.acts_of-acts.ensures ∙ ap (λ (p : ShiftPlan). acts_of_painter p mark.painter) c.plan_of-plan.ensures)) (omega (arith, c.if-count-acts.true))

pub returns-else-count-acts-clause-next : goal.returns-else-count-acts-clause-next
returns-else-count-acts-clause-next c =
    let mark = c.args.mark.now in
    let there : mark.painter < length (plan_of c.args.session.now mark.shift).painters = omega (arith, c.if-mark-len.false, c.len.ensures, ap (λ (p : ShiftPlan). length p.painters) c.plan_of-plan.ensures) in
    next_none c.args.session.now (marks_of c.args.core.now.entries) mark (slice_index c.args.counts.now (64 * mark.shift + mark.painter)) (length c.acts_of-acts.result.now)
    (c.requires.counts.each mark.shift mark.painter c.requires.shift (omega (arith, there, few_painters c.args.session.now mark.shift c.requires.fits c.requires.shift)))
    (ap length (c.acts_of-acts.ensures ∙ ap (λ (p : ShiftPlan). acts_of_painter p mark.painter) c.plan_of-plan.ensures)) (omega (arith, c.if-count-acts.false))
