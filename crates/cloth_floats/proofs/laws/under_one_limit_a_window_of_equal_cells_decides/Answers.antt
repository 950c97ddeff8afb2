use Rattle.cloth_floats.proofs.Places.{long_by_even}
use Rattle.cloth_floats.proofs.laws.under_one_limit_a_window_of_equal_cells_decides.Goals as goal

pub returns : goal.returns
returns c = long_by_even
