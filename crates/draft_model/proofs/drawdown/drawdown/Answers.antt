use Rattle.std.proofs.Common.{◌≡◌, ◌<◌, ℕ, pos, List, [], length, get_or, subst, ap, ◌∙◌, sym, arith, length-set, slice_index, Bool, false, refl}
use Rattle.std.specs.Prelude.{All}
use Rattle.point_paper.specs.Papers.{PaperCells, BitCells}
use Rattle.mill_base.specs.Lines.{line_by}
use Rattle.mill_base.proofs.lemmas.Lines.{length-line_by, line_is, one_more}
use Rattle.draft_model.specs.Cloths.{cloth, raw, rows_by}
use Rattle.draft_model.specs.Designs.{Fits, IsPaperOf}
use Rattle.draft_model.specs.Drawdowns.{bound, cell_bound}
use Rattle.draft_model.specs.declared.design.Design.{Design}
use Rattle.draft_model.proofs.ClothRows.{cloth_is, tied_row}
use Rattle.draft_model.proofs.drawdown.drawdown.Goals as goal

bound_picks : (design : Design) (paper : PaperCells) (bits : BitCells) → IsPaperOf design paper → bits ≡ bound design paper → length bits.rows ≡ design.size.picks
unfolding bound
bound_picks design paper bits fits are =
    ap (λ (b : BitCells). length b.rows) are ∙ length-line_by paper.picks (λ pick. line_by paper.columns (λ column. cell_bound design (raw design.book paper) column pick)) ∙ fits.picks

wide : (design : Design) (paper : PaperCells) (bits : BitCells) → bits ≡ bound design paper → bits.columns ≡ paper.columns
unfolding bound
wide design paper bits are = ap (λ (b : BitCells). b.columns) are

row_there : (design : Design) (paper : PaperCells) (bits : BitCells) (pick : ℕ) → IsPaperOf design paper → bits ≡ bound design paper → pick < design.size.picks → pick < length bits.rows
row_there design paper bits pick fits are h = let e = bound_picks design paper bits fits are in omega arith

pub row-requires : goal.row-requires
row-requires c = row_there c.args.design.now c.args.paper.now c.in_ok-bits.bits c.loop-pick.pick c.requires.paper c.in_ok-bits.ensures.bits c.loop-pick-test.true

pub lay-requires-clause-columns : goal.lay-requires-clause-columns
lay-requires-clause-columns c =
    c.row.ensures.columns ∙ wide c.args.design.now c.args.paper.now c.in_ok-bits.bits c.in_ok-bits.ensures.bits ∙ c.requires.paper.columns ∙ sym c.requires.fits.tie

pub loop-pick-preserved : goal.loop-pick-preserved
loop-pick-preserved c =
    let there : c.loop-pick.pick < length c.loop-pick.cloth.rows = omega (arith, c.loop-pick.invariant.picks, c.loop-pick-test.true) in
    let tie = c.args.design.now.tie.ends in
    let bits : BitCells = bound c.args.design.now c.args.paper.now in
    let woven : c.lay.new.ends ≡ line_by (length tie) (λ e. cloth tie bits (pos e) (pos c.loop-pick.pick)) =
    c.lay.ensures.line ∙ tied_row tie c.in_ok-bits.bits c.loop-pick.pick c.row.result.now
    (row_there c.args.design.now c.args.paper.now c.in_ok-bits.bits c.loop-pick.pick c.requires.paper c.in_ok-bits.ensures.bits c.loop-pick-test.true) c.row.ensures.row
    ∙ ap (λ (b : BitCells). line_by (length tie) (λ e. cloth tie b (pos e) (pos c.loop-pick.pick))) c.in_ok-bits.ensures.bits in
    record {
      ends = ap (λ b. b.ends) c.set_row.ensures ∙ c.loop-pick.invariant.ends;
      picks = ap (λ b. length b.rows) c.set_row.ensures ∙ length-set c.loop-pick.cloth.rows c.loop-pick.pick c.lay.new.ends ∙ c.loop-pick.invariant.picks;
      row = c.lay.ensures.len;
      rows = λ k below. ap (λ b. get_or b.rows k []) c.set_row.ensures
          ∙ one_more [] c.loop-pick.cloth.rows c.loop-pick.pick c.lay.new.ends (λ pick. line_by (length tie) (λ e. cloth tie bits (pos e) (pos pick))) there woven
          c.loop-pick.invariant.rows k below;
    }

pub returns : goal.returns
returns c =
    let tie = c.args.design.now.tie.ends in
    let bits : BitCells = bound c.args.design.now c.args.paper.now in
    let picks : length bits.rows ≡ c.args.design.now.size.picks = bound_picks c.args.design.now c.args.paper.now bits c.requires.paper refl in
    cloth_is c.loop-pick.cloth (length tie) (rows_by (length tie) (length bits.rows) (λ e p. cloth tie bits (pos e) (pos p))) c.loop-pick.invariant.ends
    (line_is [] c.loop-pick.cloth.rows (length bits.rows) (λ pick. line_by (length tie) (λ e. cloth tie bits (pos e) (pos pick))) (c.loop-pick.invariant.picks ∙ sym picks)
    (λ k h. c.loop-pick.invariant.rows k (omega (arith, c.loop-pick-test.false, picks))))
