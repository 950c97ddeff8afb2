use Rattle.std.proofs.Common.{◌≡◌, ◌<◌, Bool, List, [], false, length, get_or, set, ap, ◌∙◌, arith, length-set, get_or-set_same, get_or-set_other}
use Rattle.mill_base.specs.Grids.{GridCells}
use Rattle.mill_base.proofs.lemmas.Lines.{one_more}
use Rattle.point_paper.specs.Papers.{bit_cell}
use Rattle.tile_rebuild.proofs.bit_lines.copy_column.Goals as goal

pub loop-pick-preserved : goal.loop-pick-preserved
loop-pick-preserved c =
    let rows = c.loop-pick.out.rows in
    let row = c.args.row in
    let line = set (get_or rows row []) c.loop-pick.pick c.get.result in
    let there : row < length rows = omega (arith, c.requires.row, c.loop-pick.invariant.height) in
    let put : get_or c.set.new.self.rows row [] ≡ line = ap (λ (g : GridCells). get_or g.rows row []) c.set.ensures ∙ get_or-set_same rows row line [] there in
    let low : c.loop-pick.pick < length (get_or rows row []) = omega (arith, c.loop-pick.invariant.row, c.width-pick-end.ensures.width, c.loop-pick-test.true) in
    record {
      width = ap (λ (g : GridCells). g.width) c.set.ensures ∙ c.loop-pick.invariant.width;
      height = ap (λ (g : GridCells). length g.rows) c.set.ensures ∙ length-set rows row line ∙ c.loop-pick.invariant.height;
      row = ap length put ∙ length-set (get_or rows row []) c.loop-pick.pick c.get.result ∙ c.loop-pick.invariant.row;
      here = λ y h. ap (λ (xs : List Bool). get_or xs y false) put
          ∙ one_more false (get_or rows row []) c.loop-pick.pick c.get.result (bit_cell c.args.bits.now c.args.column) low c.get.ensures c.loop-pick.invariant.here y h;
      others = λ j off. ap (λ (g : GridCells). get_or g.rows j []) c.set.ensures ∙ get_or-set_other rows row j line [] off ∙ c.loop-pick.invariant.others j off;
    }
