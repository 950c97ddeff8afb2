use Rattle.std.proofs.Common.{◌<◌, false, length, get_or, slice_index, ap, sym, subst, ◌∙◌}
use Rattle.mill_base.proofs.lemmas.Lines.{length-line_by, get_or-line_by}
use Rattle.draft_model.proofs.first_float.PickLine.cell.Goals as goal

pub column-requires : goal.column-requires
column-requires c =
    let tie = c.args.self.now.tie.now.ends in
    subst (λ n. c.args.k < n) (length-line_by (length tie) (λ e. get_or c.args.self.now.row.now (slice_index tie e) false)) c.requires

pub returns : goal.returns
returns c =
    let tie = c.args.self.now.tie.now.ends in
    let row = c.args.self.now.row.now in
    c.get.ensures ∙ ap (λ n. get_or row n false) c.column.ensures.column
    ∙ sym (get_or-line_by (length tie) (λ e. get_or row (slice_index tie e) false) c.args.k false
    (subst (λ n. c.args.k < n) (length-line_by (length tie) (λ e. get_or row (slice_index tie e) false)) c.requires))
