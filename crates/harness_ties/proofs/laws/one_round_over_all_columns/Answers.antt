use Rattle.harness_ties.proofs.WithoutFault.{round_none, once_is, length-once_straight, length-once_reverse, length-once_pointed}
use Rattle.harness_ties.proofs.laws.one_round_over_all_columns.Goals as goal

pub returns-clause-none : goal.returns-clause-none
returns-clause-none c = round_none

pub returns-clause-round : goal.returns-clause-round
returns-clause-round c = once_is

pub returns-clause-straight : goal.returns-clause-straight
returns-clause-straight c = length-once_straight

pub returns-clause-reverse : goal.returns-clause-reverse
returns-clause-reverse c = length-once_reverse

pub returns-clause-pointed : goal.returns-clause-pointed
returns-clause-pointed c = length-once_pointed
