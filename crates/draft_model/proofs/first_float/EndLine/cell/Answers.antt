use Rattle.std.proofs.Common.{◌<◌, false, length, sym, subst, ◌∙◌}
use Rattle.mill_base.proofs.lemmas.Lines.{length-line_by, get_or-line_by}
use Rattle.point_paper.specs.Papers.{bit_cell}
use Rattle.draft_model.proofs.first_float.EndLine.cell.Goals as goal

pub get-requires-clause-pick : goal.get-requires-clause-pick
get-requires-clause-pick c =
    let bits = c.args.self.now.bits.now in
    subst (λ n. c.args.k < n) (length-line_by (length bits.rows) (λ p. bit_cell bits c.args.self.now.column p)) c.requires

pub returns : goal.returns
returns c =
    let bits = c.args.self.now.bits.now in
    c.get.ensures ∙ sym (get_or-line_by (length bits.rows) (λ p. bit_cell bits c.args.self.now.column p) c.args.k false
    (subst (λ n. c.args.k < n) (length-line_by (length bits.rows) (λ p. bit_cell bits c.args.self.now.column p)) c.requires))
