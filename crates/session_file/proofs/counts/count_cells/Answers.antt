use Rattle.std.proofs.Common.{ℕ, ◌<◌, ◌+◌, ◌*◌, ◌-◌, ◌^◌, min, length, sum_by, take, ap, sym, subst, ◌∙◌}
use Rattle.mill_base.specs.declared.size.Size.{Size}
use Rattle.strokes.specs.declared.motifs.NamedMotif.{NamedMotif}
use Rattle.session_file.proofs.Motifs.{cells_more, told_more}
use Rattle.session_file.proofs.counts.count_cells.Goals as goal

pub loop-number-preserved : goal.loop-number-preserved
loop-number-preserved c =
    let cells : NamedMotif → ℕ = λ (motif : NamedMotif). length motif.motif.cells in
    let k = c.loop-number.number in
    let more =
    cells_more c.args.motifs.now k c.motif.result.now (subst (λ (n : ℕ). k < n) c.len-number-end.ensures c.loop-number-test.true) c.motif.ensures
    in
    let same = ap (λ (z : Size). z.picks * z.columns) c.size-size.ensures.size ∙ sym c.size-size.ensures.whole in
    told_more c.loop-number.sum c.saturating_add-sum.result (sum_by cells (take k c.args.motifs.now)) (length c.motif.result.now.cells) (sum_by cells (take (k + 1) c.args.motifs.now))
    c.loop-number.invariant (c.saturating_add-sum.ensures ∙ ap (λ (n : ℕ). min (c.loop-number.sum + n) (2 ^ 64 - 1)) same) more
