use Rattle.std.proofs.Common.{map, arith}
use Rattle.cloth_floats.specs.Windows.{long_of}
use Rattle.draft_model.proofs.LongGrids.{grid_is, rows_mapped}
use Rattle.draft_model.proofs.long_columns.mark_long_rows.Goals as goal

pub returns : goal.returns
returns c = record {
  rows = grid_is c.loop-k.grid c.args.grid.now.width (map (λ row. long_of row c.args.lifted c.args.unlifted) c.args.grid.now.rows) c.loop-k.invariant.width
      (rows_mapped (λ row. long_of row c.args.lifted c.args.unlifted) c.loop-k.grid.rows c.args.grid.now.rows c.loop-k.invariant.height
      (λ j h. c.loop-k.invariant.done j (omega (arith, c.loop-k-test.false, c.height-k-end.ensures))));
  none = λ never j k h. c.loop-k.invariant.none never j k (omega (arith, c.loop-k-test.false, c.height-k-end.ensures, h));
}
