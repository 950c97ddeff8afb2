use Rattle.casting_out.proofs.WithoutFault.{length-live_rest, rising_none, rising_kept, all_live, full_none}
use Rattle.casting_out.proofs.laws.hooks_that_are_cast_out_leave_the_others.Goals as goal

pub returns-clause-count : goal.returns-clause-count
returns-clause-count c = length-live_rest

pub returns-clause-rising : goal.returns-clause-rising
returns-clause-rising c = rising_none

pub returns-clause-kept : goal.returns-clause-kept
returns-clause-kept c = rising_kept

pub returns-clause-all : goal.returns-clause-all
returns-clause-all c = all_live

pub returns-clause-none : goal.returns-clause-none
returns-clause-none c = full_none
