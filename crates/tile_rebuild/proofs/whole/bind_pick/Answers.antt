use Rattle.std.proofs.Common.{◌<◌, Bool, List, [], false, length, get_or, sym, ap, ◌∙◌, arith, get_or-set_same}
use Rattle.mill_base.specs.Grids.{grid_cell}
use Rattle.weave_book.specs.Weaves.{mark}
use Rattle.binder_marks.specs.Bound.{bound_cell}
use Rattle.point_paper.specs.Papers.{BitCells, bit_cell}
use Rattle.tile_rebuild.proofs.lemmas.Picks.{length-bound_line, bound_by_rows}
use Rattle.tile_rebuild.proofs.whole.bind_pick.Goals as goal

pub set_row-requires-clause-columns : goal.set_row-requires-clause-columns
set_row-requires-clause-columns c =
    length-bound_line c.row.result.now c.args.room.now.columns c.put_row.new.out c.put_row-2.new.out c.bind_line.new.out c.bind_line.ensures.line
    ∙ c.row.ensures.width ∙ c.requires.room.raw_wide ∙ sym c.requires.bits.columns

pub returns-clause-rows : goal.returns-clause-rows
returns-clause-rows c =
    let rows = c.requires.rows in
    let long = length-bound_line c.row.result.now c.args.room.now.columns c.put_row.new.out c.put_row-2.new.out c.bind_line.new.out c.bind_line.ensures.line in
    record {
      raw = rows.raw;
      up = rows.up;
      raise = c.put_row.ensures.len ∙ rows.raise;
      sink = c.put_row-2.ensures.len ∙ rows.sink;
      bound = long ∙ c.row.ensures.width ∙ c.requires.room.raw_wide;
      span = rows.span;
    }

pub returns-clause-here : goal.returns-clause-here
returns-clause-here c = λ x h.
    let design = c.args.design.now in
    let raw = c.args.room.now.raw in
    let rows = c.requires.rows in
    let pick = c.args.pick in
    let row = c.row.result.now in
    let long = c.args.room.now.columns in
    let line = c.bind_line.new.out in
    let there : pick < length c.args.bits.now.rows = omega (arith, c.requires.pick, c.requires.bits.picks) in
    let low : x < length row = omega (arith, h, c.row.ensures.width, c.requires.room.raw_wide) in
    let raised = mark design.raise x pick in
    let sunk = mark design.sink x pick in
    ap (λ (b : BitCells). bit_cell b x pick) c.set_row.ensures
    ∙ ap (λ (xs : List Bool). get_or xs x false) (get_or-set_same c.args.bits.now.rows pick line [] there)
    ∙ c.bind_line.ensures.cells x low
    ∙ bound_by_rows design row long c.put_row.new.out c.put_row-2.new.out (length c.args.rows.now.raise) (length c.args.rows.now.sink) pick x
    c.put_row.ensures.marks c.put_row-2.ensures.marks (omega (arith, h, rows.raise)) (omega (arith, h, rows.sink))
    ∙ ap (λ (xs : List Bool). bound_cell (get_or xs x false) (get_or long x false) raised sunk) c.row.ensures.row
    ∙ ap (λ b. bound_cell (grid_cell raw x pick) b raised sunk) (c.requires.long x h)
