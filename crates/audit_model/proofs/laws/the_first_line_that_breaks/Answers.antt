use Rattle.audit_model.proofs.Verdicts.{cut_more, cut_start, last_is, next_line, no_end, no_here, no_rest_here}
use Rattle.audit_model.proofs.laws.the_first_line_that_breaks.Goals as goal

pub returns-clause-start : goal.returns-clause-start
returns-clause-start c = cut_start

pub returns-clause-line : goal.returns-clause-line
returns-clause-line c = cut_more

pub returns-clause-here : goal.returns-clause-here
returns-clause-here c = no_here

pub returns-clause-rest : goal.returns-clause-rest
returns-clause-rest c = no_rest_here

pub returns-clause-end : goal.returns-clause-end
returns-clause-end c = no_end

pub returns-clause-next : goal.returns-clause-next
returns-clause-next c = next_line

pub returns-clause-last : goal.returns-clause-last
returns-clause-last c = last_is
