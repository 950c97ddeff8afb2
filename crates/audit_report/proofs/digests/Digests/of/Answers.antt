use Rattle.mill_base.specs.declared.face.Face.TheVariants.{Down}
use Rattle.audit_report.proofs.Rows.{are_digests}
use Rattle.audit_report.proofs.digests.Digests.of.Goals as goal

pub returns : goal.returns
returns c = record {
  each = are_digests c.args.design.now c.args.paper.now c.in_ok-cloth.cloth c.turn.new.cloth c.in_ok-up.up c.in_ok-down.down
      (c.lifted_rows_are_the_drawdown.ensures.up c.args.design.now c.args.paper.now c.hooks.ensures.casting c.requires.fits)
      (c.lifted_rows_are_the_drawdown.ensures.rows c.args.design.now Down c.args.paper.now c.hooks.ensures.casting c.requires.fits)
      c.in_ok-cloth.ensures c.in_ok-turn.ensures c.in_ok-up.ensures c.in_ok-down.ensures;
}
