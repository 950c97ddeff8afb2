use Rattle.std.proofs.Common.{Bool, List, false, length, get_or, ap, ◌∙◌}
use Rattle.mill_base.proofs.lemmas.Lines.{get_or-line_by}
use Rattle.weave_book.specs.Books.{colour_mark}
use Rattle.tile_rebuild.proofs.rebuild.put_pick.Goals as goal

pub returns-clause-marks : goal.returns-clause-marks
returns-clause-marks c = λ x h.
    ap (λ (xs : List Bool). get_or xs x false) c.put_raw.ensures.marks
    ∙ get_or-line_by (length c.args.out.now) (λ k. colour_mark c.args.book.now (get_or c.args.colours.now k 0) k c.args.pick) x false h
