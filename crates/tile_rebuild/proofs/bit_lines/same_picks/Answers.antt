use Rattle.std.proofs.Common.{◌≡◌, ◌<◌, Bool, List, true, false, get_or, sym, ap, ◌∙◌, arith}
use Rattle.mill_base.proofs.lemmas.Rows.{same_cells}
use Rattle.tile_rebuild.proofs.bit_lines.same_picks.Goals as goal

pub returns-then-not-equals-clause-differ : goal.returns-then-not-equals-clause-differ
returns-then-not-equals-clause-differ c = λ each.
    let same : c.equals.result ≡ true = c.equals.ensures.1
    (same_cells c.row-row.result.now c.row.result.now (c.row-row.ensures.width ∙ c.requires.wide ∙ sym c.row.ensures.columns)
    (λ x h.
    let low : x < c.args.bits.now.columns = omega (arith, h, c.row-row.ensures.width, c.requires.wide) in
    ap (λ (row : List Bool). get_or row x false) c.row-row.ensures.row ∙ each c.loop-b.b x c.loop-b-test.true low ∙ sym (ap (λ (row : List Bool). get_or row x false) c.row.ensures.row))) in
    cc c.if-not-equals.true
