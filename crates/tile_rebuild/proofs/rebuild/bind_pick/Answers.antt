use Rattle.std.proofs.Common.{◌≡◌, ◌+◌, ◌<◌, Bool, List, [], false, length, get_or, sym, ap, ◌∙◌, arith, get_or-set_same}
use Rattle.mill_base.specs.Grids.{GridCells}
use Rattle.tile_rebuild.proofs.lemmas.Picks.{length-bound_line, bound_by_rows}
use Rattle.tile_rebuild.proofs.rebuild.bind_pick.Goals as goal

pub copy_range-requires-clause-there : goal.copy_range-requires-clause-there
copy_range-requires-clause-there c =
    let long = length-bound_line c.args.rows.now.raw c.args.long.now c.put_row.new.out c.put_row-2.new.out c.bind_line.new.out c.bind_line.ensures.line in
    omega (arith, long, c.requires.rows.raw, c.requires.part.wide)

pub returns-clause-rows : goal.returns-clause-rows
returns-clause-rows c =
    let rows = c.requires.rows in
    let long = length-bound_line c.args.rows.now.raw c.args.long.now c.put_row.new.out c.put_row-2.new.out c.bind_line.new.out c.bind_line.ensures.line in
    record {
      raw = rows.raw;
      up = rows.up;
      raise = c.put_row.ensures.len ∙ rows.raise;
      sink = c.put_row-2.ensures.len ∙ rows.sink;
      bound = long ∙ rows.raw;
      span = c.copy_range.ensures.len ∙ rows.span;
    }

pub returns-clause-here : goal.returns-clause-here
returns-clause-here c = λ a h.
    let design = c.args.design.now in
    let rows = c.requires.rows in
    let b = c.args.b in
    let k = c.args.part.column + a in
    let pick = c.args.part.pick + b in
    let span = c.copy_range.new.self in
    let place : 0 + a ≡ a = omega arith in
    let there : b < length c.args.cells.now.rows = omega (arith, c.requires.pick.1, c.requires.cells.high) in
    let low : k < design.size.columns = omega (arith, h, c.requires.part.wide) in
    ap (λ (g : GridCells). get_or (get_or g.rows b []) a false) c.set_row.ensures
    ∙ ap (λ (xs : List Bool). get_or xs a false) (get_or-set_same c.args.cells.now.rows b span [] there)
    ∙ ap (λ n. get_or span n false) (sym place) ∙ c.copy_range.ensures.here a h
    ∙ c.bind_line.ensures.cells k (omega (arith, low, rows.raw))
    ∙ bound_by_rows design c.args.rows.now.raw c.args.long.now c.put_row.new.out c.put_row-2.new.out (length c.args.rows.now.raise) (length c.args.rows.now.sink) pick k
    c.put_row.ensures.marks c.put_row-2.ensures.marks (omega (arith, low, rows.raise)) (omega (arith, low, rows.sink))
