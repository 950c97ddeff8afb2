use Rattle.std.proofs.Common.{[], ap, ◌∙◌, arith}
use Rattle.std.proofs.lemmas.List.{ext_get_or}
use Rattle.mill_base.specs.Grids.{transposed}
use Rattle.draft_model.proofs.LongGrids.{grid_is}
use Rattle.float_list.proofs.lines.columns_of.Goals as goal

pub returns : goal.returns
returns c =
    let bits = c.args.bits.now in
    let high = ap (λ s. s.picks) c.size-columns.ensures.size in
    c.transpose_into.ensures.columns
    ∙ ap transposed (grid_is c.loop-pick.grid bits.columns bits.rows c.loop-pick.invariant.width
    (ext_get_or [] c.loop-pick.grid.rows bits.rows c.loop-pick.invariant.height
    (λ k h. c.loop-pick.invariant.rows k (omega (arith, c.loop-pick-test.false, c.loop-pick.invariant.height, high, h)))))
