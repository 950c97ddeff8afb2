use Rattle.mill_base.proofs.lemmas.RotatedRows.{turned_along}
use Rattle.mill_base.proofs.row_words.turn.Goals as goal

pub returns-clause-turned : goal.returns-clause-turned
returns-clause-turned c =
    turned_along c.args.words.now c.args.len c.args.by c.put_turned.new.out.items c.clear_past.new.words.items c.args.len c.clear_past.ensures.below c.put_turned.ensures.turned
