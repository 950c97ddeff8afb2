use Rattle.point_paper.specs.Papers.{bit_row}
use Rattle.card_image.proofs.Turned.{turned_face}
use Rattle.card_image.proofs.laws.turned_cards_are_those_of_the_other_face.Goals as goal

pub returns-clause-row : goal.returns-clause-row
returns-clause-row c =
    turned_face c.holes_are_cells.ensures.long c.holes_are_cells.ensures.idle c.columns_and_hooks_match.ensures.hangs c.columns_and_hooks_match.ensures.none c.holes_are_cells.ensures.cell

pub returns-clause-pick : goal.returns-clause-pick
returns-clause-pick c casting bits face pick is =
    turned_face c.holes_are_cells.ensures.long c.holes_are_cells.ensures.idle c.columns_and_hooks_match.ensures.hangs c.columns_and_hooks_match.ensures.none c.holes_are_cells.ensures.cell
    casting face (bit_row bits pick) is
