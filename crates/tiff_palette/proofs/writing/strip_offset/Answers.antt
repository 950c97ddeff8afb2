use Rattle.std.proofs.Common.{arith}
use Rattle.tiff_palette.proofs.Pushes.{strips_few, strip_rows, strip_area}
use Rattle.tiff_palette.proofs.writing.strip_offset.Goals as goal

pub overflow_mul-above : goal.overflow_mul-above
overflow_mul-above c =
    let e = strip_rows c.args.layout.now c.args.strips c.args.strip c.requires.strips c.requires.cut.rows.0 c.requires.there in grind (arith, e, c.requires.cut.height)

pub pixels_place-requires : goal.pixels_place-requires
pixels_place-requires c = let e = strips_few c.args.layout.now c.requires.cut.rows.0 in grind (arith, e, c.requires.cut.height)

pub overflow_cast-result : goal.overflow_cast-result
overflow_cast-result c = let e = strips_few c.args.layout.now c.requires.cut.rows.0 in grind (arith, e, c.requires.cut.height)

pub overflow_mul-result : goal.overflow_mul-result
overflow_mul-result c =
    let e = strip_area c.args.layout.now c.args.strips c.args.strip c.requires.strips c.requires.cut.rows.0 c.requires.there in grind (arith, e, c.requires.cut.cells)

pub overflow_add-result : goal.overflow_add-result
overflow_add-result c =
    let few = strips_few c.args.layout.now c.requires.cut.rows.0 in
    let e = strip_area c.args.layout.now c.args.strips c.args.strip c.requires.strips c.requires.cut.rows.0 c.requires.there in
    grind (arith, few, e, c.requires.cut.cells, c.requires.cut.height)
