use Rattle.std.proofs.Common.{◌<◌, Bool, List, [], false, length, get_or, sym, ap, subst, ◌∙◌, arith, length-set, get_or-set_same}
use Rattle.mill_base.specs.Grids.{GridCells}
use Rattle.weave_book.specs.Books.{colour_mark}
use Rattle.tile_rebuild.proofs.lemmas.Passes.{colour_read, colours_in_book, length-read}
use Rattle.tile_rebuild.proofs.whole.read_pick.Goals as goal

pub put_pick-requires-clause-cells : goal.put_pick-requires-clause-cells
put_pick-requires-clause-cells g c =
    length-read c.args.paper.now c.args.pick c.deref.result.now (c.deref.ensures.value ∙ c.read_colours.ensures.colours) ∙ c.requires.paper.columns ∙ sym c.requires.room.columns

pub put_pick-requires-clause-colours : goal.put_pick-requires-clause-colours
put_pick-requires-clause-colours g c =
    colours_in_book c.args.paper.now c.args.pick (length c.args.design.now.book) c.deref.result.now (c.deref.ensures.value ∙ c.read_colours.ensures.colours)
    (λ column h. c.requires.paper.colours column c.args.pick h (subst (λ n. c.args.pick < n) (sym c.requires.paper.picks) c.requires.pick))

pub returns-clause-room : goal.returns-clause-room
returns-clause-room g c =
    let room = c.requires.room in
    let rows = c.args.room.now.raw.rows in
    record {
      raw_wide = ap (λ (g : GridCells). g.width) c.set_row.ensures ∙ room.raw_wide;
      raw_high = ap (λ (g : GridCells). length g.rows) c.set_row.ensures ∙ length-set rows c.args.pick c.put_pick.new.out ∙ room.raw_high;
      turned_wide = room.turned_wide;
      turned_high = room.turned_high;
      long_wide = room.long_wide;
      long_high = room.long_high;
      line = room.line;
      ends = room.ends;
      ends_long = room.ends_long;
      columns = c.put_pick.ensures.len ∙ room.columns;
      colours = length-read c.args.paper.now c.args.pick c.read_colours.new.colours.items c.read_colours.ensures.colours ∙ c.requires.paper.columns;
    }

pub returns-clause-here : goal.returns-clause-here
returns-clause-here g c = λ x h.
    let design = c.args.design.now in
    let pick = c.args.pick in
    let rows = c.args.room.now.raw.rows in
    let row = c.put_pick.new.out in
    let there : pick < length rows = omega (arith, c.requires.pick, c.requires.room.raw_high) in
    let wide : x < length c.args.room.now.columns = omega (arith, h, c.requires.room.columns) in
    let within : x < c.args.paper.now.columns = omega (arith, h, c.requires.paper.columns) in
    ap (λ (g : GridCells). get_or (get_or g.rows pick []) x false) c.set_row.ensures
    ∙ ap (λ (xs : List Bool). get_or xs x false) (get_or-set_same rows pick row [] there)
    ∙ c.put_pick.ensures.marks x wide
    ∙ ap (λ colour. colour_mark design.book colour x pick) (colour_read c.args.paper.now pick x c.deref.result.now (c.deref.ensures.value ∙ c.read_colours.ensures.colours) within)
