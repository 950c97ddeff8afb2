use Rattle.std.proofs.Common.{ap, ◌∙◌}
use Rattle.mill_base.specs.declared.face.Face.TheVariants.{Down}
use Rattle.audit_report.specs.Checkers.{turned}
use Rattle.audit_report.proofs.Rows.{down_is}
use Rattle.audit_report.proofs.digests.lifted_face_down.Goals as goal

pub returns : goal.returns
returns c =
    c.in_ok-turn.ensures ∙ ap turned c.in_ok-cloth.ensures
    ∙ down_is c.args.design.now c.args.paper.now (c.lifted_rows_are_the_drawdown.ensures.rows c.args.design.now Down c.args.paper.now c.hooks.ensures.casting c.requires.fits)
