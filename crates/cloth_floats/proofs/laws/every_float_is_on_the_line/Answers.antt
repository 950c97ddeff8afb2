use Rattle.cloth_floats.proofs.Indexed.{all_on_line, first_on_line}
use Rattle.cloth_floats.proofs.laws.every_float_is_on_the_line.Goals as goal

pub returns-clause-each : goal.returns-clause-each
returns-clause-each c = all_on_line

pub returns-clause-first : goal.returns-clause-first
returns-clause-first c = first_on_line
