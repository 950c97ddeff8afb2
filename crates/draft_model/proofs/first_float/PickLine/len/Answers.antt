use Rattle.std.proofs.Common.{false, length, get_or, slice_index, sym, ◌∙◌}
use Rattle.mill_base.proofs.lemmas.Lines.{length-line_by}
use Rattle.draft_model.proofs.first_float.PickLine.len.Goals as goal

pub returns : goal.returns
returns c =
    let tie = c.args.self.now.tie.now.ends in
    c.ends.ensures.count ∙ sym (length-line_by (length tie) (λ e. get_or c.args.self.now.row.now (slice_index tie e) false))
