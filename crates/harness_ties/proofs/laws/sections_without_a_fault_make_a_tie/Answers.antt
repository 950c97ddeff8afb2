use Rattle.harness_ties.proofs.WithoutFault.{none_of_tie, tie_of_none, built_tie}
use Rattle.harness_ties.proofs.laws.sections_without_a_fault_make_a_tie.Goals as goal

pub returns-clause-none : goal.returns-clause-none
returns-clause-none c sections columns = (tie_of_none sections columns, none_of_tie sections columns)

pub returns-clause-tie : goal.returns-clause-tie
returns-clause-tie c = built_tie
