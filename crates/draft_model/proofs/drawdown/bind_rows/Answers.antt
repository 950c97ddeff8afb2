use Rattle.std.proofs.Common.{◌<◌, [], length, get_or, ap, ◌∙◌, sym, arith, length-set}
use Rattle.mill_base.specs.Lines.{line_by}
use Rattle.mill_base.proofs.lemmas.Lines.{length-line_by, line_is, one_more}
use Rattle.point_paper.specs.Papers.{BitCells}
use Rattle.draft_model.specs.Cloths.{rows_by}
use Rattle.draft_model.specs.Drawdowns.{cell_bound}
use Rattle.draft_model.specs.Inner.{bits_of}
use Rattle.draft_model.proofs.ClothRows.{bits_are}
use Rattle.draft_model.proofs.drawdown.bind_rows.Goals as goal

pub set_row-requires-clause-columns : goal.set_row-requires-clause-columns
set_row-requires-clause-columns c =
    ap length c.bind_row.ensures.row
    ∙ length-line_by c.args.design.now.size.columns (λ column. cell_bound c.args.design.now (bits_of c.args.raw.now) column c.loop-pick.pick)
    ∙ sym c.loop-pick.invariant.columns

pub loop-pick-preserved : goal.loop-pick-preserved
loop-pick-preserved c =
    let design = c.args.design.now in
    let raw = c.args.raw.now in
    let pick = c.loop-pick.pick in
    let there : pick < length c.loop-pick.bits.rows = omega (arith, c.loop-pick.invariant.picks, c.loop-pick-test.true) in
    record {
      columns = ap (λ (b : BitCells). b.columns) c.set_row.ensures ∙ c.loop-pick.invariant.columns;
      picks = ap (λ (b : BitCells). length b.rows) c.set_row.ensures ∙ length-set c.loop-pick.bits.rows pick c.bind_row.new.row ∙ c.loop-pick.invariant.picks;
      raise = c.bind_row.ensures.raise;
      sink = c.bind_row.ensures.sink;
      row = ap length c.bind_row.ensures.row ∙ length-line_by design.size.columns (λ column. cell_bound design (bits_of raw) column pick);
      rows = λ k below. ap (λ (b : BitCells). get_or b.rows k []) c.set_row.ensures
          ∙ one_more [] c.loop-pick.bits.rows pick c.bind_row.new.row (λ p. line_by design.size.columns (λ column. cell_bound design (bits_of raw) column p)) there
          c.bind_row.ensures.row c.loop-pick.invariant.rows k below;
    }

pub returns : goal.returns
returns c =
    let design = c.args.design.now in
    let raw = c.args.raw.now in
    bits_are c.loop-pick.bits design.size.columns (rows_by design.size.columns design.size.picks (cell_bound design (bits_of raw))) c.loop-pick.invariant.columns
    (line_is [] c.loop-pick.bits.rows design.size.picks (λ p. line_by design.size.columns (λ column. cell_bound design (bits_of raw) column p)) c.loop-pick.invariant.picks
    (λ k h. c.loop-pick.invariant.rows k (omega (arith, c.loop-pick-test.false))))
