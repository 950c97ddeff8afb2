use Rattle.std.proofs.Common.{List, ℕ, Some, ap, sym, ◌∙◌}
use Rattle.mill_io.specs.Sure.{Placed}
use Rattle.mill_io.proofs.Placing.{content_at, content_nowhere}
use Rattle.mill_io.proofs.sure_shelf.content_under.Goals as goal

pub returns-in_err-at : goal.returns-in_err-at
returns-in_err-at c = rw c.from_residual.ensures (sym (content_nowhere c.args.files.now c.args.name.now c.in_err-at.ensures))

pub returns : goal.returns
returns c =
    ap (λ (content : List ℕ). Some content) (c.content.ensures ∙ ap (λ (p : Placed). p.file.content) c.index-files-at.is)
    ∙ sym (content_at c.args.files.now c.args.name.now c.in_ok-at.at c.index-files-at.result c.in_ok-at.ensures)
