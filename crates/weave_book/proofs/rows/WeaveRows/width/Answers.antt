use Rattle.std.proofs.Common.{ap, sym, ◌∙◌, get_or, length, [], List, Bool}
use Rattle.weave_book.proofs.Blocks.{width_of_block}
use Rattle.weave_book.proofs.rows.WeaveRows.width.Goals as goal

pub returns : goal.returns
returns c =
    sym (width_of_block c.self.inside.width c.self.inside.height c.self.inside.words c.self.invariant)
    ∙ ap (λ (rows : List (List Bool)). length (get_or rows 0 [])) c.self.view_is
