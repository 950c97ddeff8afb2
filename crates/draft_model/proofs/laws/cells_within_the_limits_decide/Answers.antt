use Rattle.draft_model.proofs.lemmas.LongCells.{long_cell_around, bound_around}
use Rattle.draft_model.proofs.laws.cells_within_the_limits_decide.Goals as goal

pub returns-clause-long : goal.returns-clause-long
returns-clause-long c = long_cell_around c.cells_within_the_limit_decide.ensures.by_positions

pub returns-clause-bound : goal.returns-clause-bound
returns-clause-bound c design row other_row cells other_cells column pick there agree same =
    bound_around design row other_row cells other_cells column pick
    (long_cell_around c.cells_within_the_limit_decide.ensures.by_positions design row other_row cells other_cells column pick there agree) same
