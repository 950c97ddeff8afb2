use Rattle.std.proofs.Common.{◌∙◌, sym}
use Rattle.card_image.proofs.Whole.{whole_row}
use Rattle.card_image.proofs.cutting.put_on_hooks.Goals as goal

pub returns-then-columns-hooks-clause-row : goal.returns-then-columns-hooks-clause-row
returns-then-columns-hooks-clause-row c =
    c.copy_from.ensures
    ∙ whole_row c.a_row_comes_back_from_the_hooks.ensures.cell c.args.casting.now c.args.row.now c.columns.ensures.casting
    (sym c.columns.ensures.count ∙ c.if-columns-hooks.true ∙ c.hooks.ensures.count) c.requires.row
