use Rattle.std.proofs.Common.{◌+◌, ◌*◌, length, length-set, true, refl, ap, ◌∙◌, arith}
use Rattle.tile_marks.proofs.Marked.{more_so_far}
use Rattle.tile_marks.proofs.columns.mark_column.Goals as goal

pub loop-row-preserved : goal.loop-row-preserved
loop-row-preserved c =
    let old = c.args.set.now in
    let rows = c.args.rows.now in
    let first = c.in-Some.ensures.some in
    record {
      len = ap length c.set.ensures ∙ length-set c.loop-row.set (c.in-Some.row * c.args.across + c.args.column) true ∙ c.loop-row.invariant.len;
      bound = (let h = first.within in omega arith);
      tiles = more_so_far old c.loop-row.set c.set.new.self rows c.args.across c.args.column c.loop-row.from c.in-Some.row (length old)
          (let h = c.requires.column in omega arith) c.requires.column refl c.loop-row.invariant.len c.requires.set first c.loop-row.invariant.tiles c.set.ensures;
    }
