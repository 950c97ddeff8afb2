use Rattle.std.proofs.Common.{◌+◌, [], length, get_or, ap, ◌∙◌, arith, length-set}
use Rattle.mill_base.specs.Grids.{GridCells}
use Rattle.mill_base.proofs.lemmas.Lines.{one_more}
use Rattle.tile_rebuild.proofs.bit_lines.copy_picks.Goals as goal

pub loop-b-preserved : goal.loop-b-preserved
loop-b-preserved c = record {
  width = ap (λ (g : GridCells). g.width) c.set_row.ensures ∙ c.loop-b.invariant.width;
  height = ap (λ (g : GridCells). length g.rows) c.set_row.ensures ∙ length-set c.loop-b.out.rows c.loop-b.b c.row.result.now ∙ c.loop-b.invariant.height;
  rows = λ b h. ap (λ (g : GridCells). get_or g.rows b []) c.set_row.ensures
      ∙ one_more [] c.loop-b.out.rows c.loop-b.b c.row.result.now (λ j. get_or c.args.bits.now.rows (c.args.part.pick + j) [])
      (omega (arith, c.loop-b-test.true, c.requires.high, c.loop-b.invariant.height)) c.row.ensures.row c.loop-b.invariant.rows b h;
}
