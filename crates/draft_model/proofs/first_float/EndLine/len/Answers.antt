use Rattle.std.proofs.Common.{length, ap, sym, ◌∙◌}
use Rattle.mill_base.proofs.lemmas.Lines.{length-line_by}
use Rattle.point_paper.specs.Papers.{bit_cell}
use Rattle.draft_model.proofs.first_float.EndLine.len.Goals as goal

pub returns : goal.returns
returns c =
    let bits = c.args.self.now.bits.now in
    ap (λ s. s.picks) c.size.ensures.size ∙ sym (length-line_by (length bits.rows) (λ p. bit_cell bits c.args.self.now.column p))
