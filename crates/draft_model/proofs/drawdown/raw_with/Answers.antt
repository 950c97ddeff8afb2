use Rattle.std.proofs.Common.{◌≡◌, ◌<◌, ℕ, List, [], Bool, length, get_or, ap, refl, ◌∙◌, sym, subst, arith, length-set}
use Rattle.std.specs.Prelude.{slice_index}
use Rattle.mill_base.specs.Grids.{GridCells}
use Rattle.mill_base.specs.Lines.{line_by}
use Rattle.mill_base.proofs.lemmas.Lines.{length-line_by, line_is, one_more}
use Rattle.weave_book.specs.Books.{colour_mark}
use Rattle.point_paper.specs.Papers.{BitCells, PaperCells, cell_of, pick_of}
use Rattle.draft_model.specs.Cloths.{raw_cell, rows_by}
use Rattle.draft_model.specs.Inner.{bits_of}
use Rattle.draft_model.proofs.ClothRows.{bits_are, colours_in_book, raw_read}
use Rattle.draft_model.proofs.drawdown.raw_with.Goals as goal

pick_long : (paper : PaperCells) (pick columns : ℕ) (read colours : List ℕ) → read ≡ colours → colours ≡ pick_of paper pick → paper.columns ≡ columns → length read ≡ columns
pick_long paper pick columns read colours is are wide = ap length (is ∙ are) ∙ length-line_by paper.columns (λ column. cell_of paper column pick) ∙ wide

pub put_raw-requires-clause-cells : goal.put_raw-requires-clause-cells
put_raw-requires-clause-cells g c =
    pick_long c.args.paper.now c.loop-pick.pick c.args.design.now.size.columns c.deref.result.now c.read_pick.new.colours.items c.deref.ensures.value c.read_pick.ensures c.requires.paper.columns
    ∙ sym c.loop-pick.invariant.row

pub put_raw-requires-clause-colours : goal.put_raw-requires-clause-colours
put_raw-requires-clause-colours g c =
    colours_in_book c.args.paper.now c.loop-pick.pick (length c.args.design.now.book) c.deref.result.now (c.deref.ensures.value ∙ c.read_pick.ensures)
    (λ column h. c.requires.paper.colours column c.loop-pick.pick h (subst (λ n. c.loop-pick.pick < n) (sym c.requires.paper.picks) c.loop-pick-test.true))

pub set_row-requires-clause-width : goal.set_row-requires-clause-width
set_row-requires-clause-width g c =
    ap length c.put_raw.ensures.marks ∙ length-line_by (length c.loop-pick.row) (λ column. colour_mark c.args.design.now.book (slice_index c.deref.result.now column) column c.loop-pick.pick)
    ∙ c.loop-pick.invariant.row ∙ sym c.loop-pick.invariant.columns

pub loop-pick-preserved : goal.loop-pick-preserved
loop-pick-preserved g c =
    let there : c.loop-pick.pick < length c.loop-pick.raw.rows = omega (arith, c.loop-pick.invariant.picks, c.loop-pick-test.true) in
    let read = pick_long c.args.paper.now c.loop-pick.pick c.args.design.now.size.columns c.deref.result.now c.read_pick.new.colours.items c.deref.ensures.value c.read_pick.ensures c.requires.paper.columns in
    let marked = c.put_raw.ensures.marks ∙ ap (λ n. line_by n (λ column. colour_mark c.args.design.now.book (slice_index c.deref.result.now column) column c.loop-pick.pick)) (c.loop-pick.invariant.row ∙ sym read) in
    record {
      columns = ap (λ (b : GridCells). b.width) c.set_row.ensures ∙ c.loop-pick.invariant.columns;
      picks = ap (λ (b : GridCells). length b.rows) c.set_row.ensures ∙ length-set c.loop-pick.raw.rows c.loop-pick.pick c.put_raw.new.out ∙ c.loop-pick.invariant.picks;
      colours = pick_long c.args.paper.now c.loop-pick.pick c.args.design.now.size.columns c.read_pick.new.colours.items c.read_pick.new.colours.items refl c.read_pick.ensures c.requires.paper.columns;
      row = ap length c.put_raw.ensures.marks ∙ length-line_by (length c.loop-pick.row) (λ column. colour_mark c.args.design.now.book (slice_index c.deref.result.now column) column c.loop-pick.pick)
          ∙ c.loop-pick.invariant.row;
      rows = λ k below. ap (λ (b : GridCells). get_or b.rows k []) c.set_row.ensures
          ∙ one_more [] c.loop-pick.raw.rows c.loop-pick.pick c.put_raw.new.out
          (λ pick. line_by c.args.paper.now.columns (λ column. raw_cell c.args.design.now.book c.args.paper.now column pick)) there
          (raw_read c.args.design.now.book c.args.paper.now c.loop-pick.pick c.deref.result.now c.put_raw.new.out (c.deref.ensures.value ∙ c.read_pick.ensures) marked)
          c.loop-pick.invariant.rows k below;
    }

pub returns : goal.returns
returns g c =
    bits_are (bits_of c.loop-pick.raw) c.args.paper.now.columns (rows_by c.args.paper.now.columns c.args.paper.now.picks (raw_cell c.args.design.now.book c.args.paper.now))
    (c.loop-pick.invariant.columns ∙ sym c.requires.paper.columns)
    (line_is [] c.loop-pick.raw.rows c.args.paper.now.picks (λ pick. line_by c.args.paper.now.columns (λ column. raw_cell c.args.design.now.book c.args.paper.now column pick))
    (c.loop-pick.invariant.picks ∙ sym c.requires.paper.picks)
    (λ k h. c.loop-pick.invariant.rows k (omega (arith, c.loop-pick-test.false, c.requires.paper.picks))))
