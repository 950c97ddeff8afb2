use Rattle.std.proofs.Common.{false, length, get_or, arith}
use Rattle.tile_grid.proofs.Counts.{count_grows, counted_row}
use Rattle.tile_grid.proofs.Crossings.{crossed_below, crossed_beside, crossed_above}
use Rattle.tile_grid.proofs.crossing.nth_crossed.Goals as goal

pub nth_true-requires-clause-k : goal.nth_true-requires-clause-k
nth_true-requires-clause-k c =
    let rows = c.args.rows.now in
    let few = count_grows (λ x. get_or rows x false) c.args.tile_row (length rows) (let h = c.requires.tile_row in omega arith) in
    omega (arith, few, c.if-k-below.true, c.count_before-below.ensures)

pub returns-then-k-below : goal.returns-then-k-below
returns-then-k-below c =
    crossed_below c.args.columns.now c.args.rows.now c.args.tile_column c.args.tile_row c.args.k c.len-across.result c.count_before-below.result c.nth_true.result
    c.len-across.ensures c.requires.tile_column c.requires.tile_row c.count_before-below.ensures c.if-k-below.true c.nth_true.ensures

pub nth_true-requires-then-k-below-2-clause-k : goal.nth_true-requires-then-k-below-2-clause-k
nth_true-requires-then-k-below-2-clause-k c = let all = counted_row c.args.columns.now in omega (arith, all, c.count-beside.ensures, c.if-k-below-2.true)

pub returns-then-k-below-2 : goal.returns-then-k-below-2
returns-then-k-below-2 c =
    crossed_beside c.args.columns.now c.args.rows.now c.args.tile_column c.args.tile_row c.args.k c.len-across.result c.count_before-below.result c.nth_true-then-k-below-2.result
    c.len-across.ensures c.requires.tile_column c.requires.tile_row c.requires.column c.count_before-below.ensures c.if-k-below.false c.nth_true-then-k-below-2.ensures

pub nth_true-requires-2-clause-k : goal.nth_true-requires-2-clause-k
nth_true-requires-2-clause-k c =
    let all = counted_row c.args.rows.now in
    omega (arith, all, c.count-beside.ensures, c.if-k-below-2.false, c.if-k-below.false, c.requires.k)

pub returns : goal.returns
returns c =
    crossed_above c.args.columns.now c.args.rows.now c.args.tile_column c.args.tile_row c.args.k c.len-across.result c.count_before-below.result c.count-beside.result c.nth_true-2.result
    c.len-across.ensures c.requires.tile_column c.requires.tile_row c.requires.column c.requires.row c.count_before-below.ensures c.count-beside.ensures
    (omega (arith, c.if-k-below-2.false, c.if-k-below.false)) c.nth_true-2.ensures
