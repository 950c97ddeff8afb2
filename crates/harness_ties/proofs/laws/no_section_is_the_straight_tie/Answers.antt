use Rattle.harness_ties.proofs.WithoutFault.{straight_none, length-straight, end_of_straight}
use Rattle.harness_ties.proofs.laws.no_section_is_the_straight_tie.Goals as goal

pub returns-clause-none : goal.returns-clause-none
returns-clause-none c = straight_none

pub returns-clause-ends : goal.returns-clause-ends
returns-clause-ends c = length-straight

pub returns-clause-columns : goal.returns-clause-columns
returns-clause-columns c = end_of_straight
