use Rattle.casting_out.proofs.Holes.{on_hook, on_no_column, comes_back}
use Rattle.casting_out.proofs.laws.a_row_comes_back_from_the_hooks.Goals as goal

pub returns-clause-cell : goal.returns-clause-cell
returns-clause-cell c = on_hook

pub returns-clause-idle : goal.returns-clause-idle
returns-clause-idle c = on_no_column

pub returns-clause-back : goal.returns-clause-back
returns-clause-back c = comes_back
