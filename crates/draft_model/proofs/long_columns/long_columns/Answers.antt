use Rattle.std.proofs.Common.{◌≡◌, ◌≢◌, ⊎_elim, ◌<◌, ◌||◌, [], false, length, get_or, ap, sym, subst, ◌∙◌, arith}
use Rattle.std.proofs.lemmas.Bool.{cases_eq}
use Rattle.mill_base.specs.Grids.{GridCells}
use Rattle.mill_base.specs.Lines.{line_by}
use Rattle.mill_base.proofs.lemmas.Lines.{length-line_by, get_or-line_by, line_is}
use Rattle.std.proofs.lemmas.List.{length-replicate}
use Rattle.mill_base.specs.Grids.{grid_row}
use Rattle.harness_ties.specs.Ties.{tied, gathered}
use Rattle.cloth_floats.specs.Windows.{long_of}
use Rattle.draft_model.specs.Cloths.{rows_by}
use Rattle.draft_model.specs.Drawdowns.{column_long}
use Rattle.draft_model.specs.Inner.{bits_of, end_long}
use Rattle.draft_model.proofs.LongGrids.{grid_is, pick_is_long}
use Rattle.draft_model.proofs.long_columns.long_columns.Goals as goal

pub loop-pick-init : goal.loop-pick-init
loop-pick-init c =
    let design = c.args.design.now in
    let rows = rows_by design.size.columns design.size.picks (end_long design c.args.raw.now) in
    record {
      width = ap (λ (g : GridCells). g.width) c.in_ok-long.ensures;
      height = ap (λ (g : GridCells). length g.rows) c.in_ok-long.ensures ∙ length-line_by design.size.picks (λ p. line_by design.size.columns (λ k. end_long design c.args.raw.now k p));
      ends = ap length c.in_ok-ends.ensures ∙ length-replicate c.ends.result false ∙ c.ends.ensures.count;
      ends_long = ap length c.in_ok-ends_long.ensures ∙ length-replicate c.ends-2.result false ∙ c.ends-2.ensures.count;
      columns = ap length c.in_ok-columns.ensures ∙ length-replicate design.size.columns false;
      done = λ k below. absurd (omega arith);
      left = λ k from below. ap (λ (g : GridCells). get_or g.rows k []) c.in_ok-long.ensures
          ∙ get_or-line_by design.size.picks (λ p. line_by design.size.columns (λ x. end_long design c.args.raw.now x p)) k [] below;
    }

pub loop-pick-preserved : goal.loop-pick-preserved
loop-pick-preserved c =
    let design = c.args.design.now in
    let raw = c.args.raw.now in
    let columns = design.size.columns in
    let pick = c.loop-pick.pick in
    let low : pick < design.size.picks = c.loop-pick-test.true in
    let before = c.loop-pick.invariant.left pick (omega arith) low in
    record {
      width = c.join_row.ensures.width ∙ c.loop-pick.invariant.width;
      height = c.join_row.ensures.height ∙ c.loop-pick.invariant.height;
      ends = c.lay.ensures.len;
      ends_long = c.long_cells.ensures.len ∙ c.loop-pick.invariant.ends_long;
      columns = c.join_row.ensures.columns ∙ c.requires.fits.tie;
      done = λ k below. ⊎_elim
          (λ (is : k ≡ pick). subst (λ p. get_or c.join_row.new.long.rows p [] ≡ line_by columns (λ column. column_long design (bits_of raw) column p)) (sym is)
          (pick_is_long design raw columns pick (get_or c.join_row.new.long.rows pick [])
          (c.join_row.ensures.wide ∙ ap length before ∙ length-line_by columns (λ column. end_long design raw column pick))
          (λ i h.
          c.join_row.ensures.here i (subst (λ n. i < n) (sym c.requires.fits.tie) h)
          ∙ ap (λ n. get_or (gathered n design.tie.ends c.long_cells.new.out) i false || get_or (get_or c.loop-pick.long.rows pick []) i false) c.requires.fits.tie
          ∙ ap (λ xs. get_or (gathered columns design.tie.ends xs) i false || get_or (get_or c.loop-pick.long.rows pick []) i false)
          (c.long_cells.ensures.all ∙ ap (λ xs. long_of xs design.weft_back design.weft_face) (c.lay.ensures.line ∙ ap (tied design.tie.ends) c.row.ensures.row))
          ∙ ap (λ xs. get_or (gathered columns design.tie.ends (long_of (tied design.tie.ends (grid_row raw pick)) design.weft_back design.weft_face)) i false || get_or xs i false) before)
          (λ column h. c.two_lines_decide_a_cell.ensures.long design (bits_of raw) column pick c.ends.ensures.tie (subst (λ n. column < n) (sym c.requires.fits.tie) h) c.requires.raw.picks low)))
          (λ (other : k ≢ pick). c.join_row.ensures.others k other ∙ c.loop-pick.invariant.done k (omega (arith, other, below)))
          (cases_eq k pick);
      left = λ k from below. c.join_row.ensures.others k (omega (arith, from)) ∙ c.loop-pick.invariant.left k (omega (arith, from)) below;
    }

pub returns : goal.returns
returns c =
    let design = c.args.design.now in
    let raw = c.args.raw.now in
    grid_is c.loop-pick.long design.size.columns (rows_by design.size.columns design.size.picks (column_long design (bits_of raw))) c.loop-pick.invariant.width
    (line_is [] c.loop-pick.long.rows design.size.picks (λ p. line_by design.size.columns (λ column. column_long design (bits_of raw) column p)) c.loop-pick.invariant.height
    (λ k h. c.loop-pick.invariant.done k (omega (arith, c.loop-pick-test.false))))
