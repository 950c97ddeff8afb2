use Rattle.std.proofs.Common.{ap, ◌∙◌, List, ℕ}
use Rattle.point_paper.proofs.lemmas.Cells.{colours_of_one}
use Rattle.point_paper.proofs.paper.Paper.blank.Goals as goal

pub returns : goal.returns
returns c =
    ap (λ (xs : List ℕ). record { columns = c.args.size.columns; picks = c.args.size.picks; colours = xs })
    (c.in_ok-colours.ensures.items_if_clones_equal (λ y e. e) ∙ colours_of_one c.args.size.columns c.args.size.picks c.args.colour)
