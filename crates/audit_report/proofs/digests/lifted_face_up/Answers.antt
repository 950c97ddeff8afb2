use Rattle.std.proofs.Common.{sym, ◌∙◌}
use Rattle.audit_report.proofs.digests.lifted_face_up.Goals as goal

pub returns : goal.returns
returns c = c.in_ok-cloth.ensures ∙ sym (c.lifted_rows_are_the_drawdown.ensures.up c.args.design.now c.args.paper.now c.hooks.ensures.casting c.requires.fits)
