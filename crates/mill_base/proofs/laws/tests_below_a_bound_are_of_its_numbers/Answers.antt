use Rattle.mill_base.proofs.lemmas.Belows.{any_witness, any_here, all_at, all_each, count_zero, count_none}
use Rattle.mill_base.proofs.laws.tests_below_a_bound_are_of_its_numbers.Goals as goal

pub returns-clause-some : goal.returns-clause-some
returns-clause-some c p n = (any_witness p n, λ w. any_here p n w.0 w.1 w.2)

pub returns-clause-each : goal.returns-clause-each
returns-clause-each c p n = (λ all i. all_at p n i all, all_each p n)

pub returns-clause-none : goal.returns-clause-none
returns-clause-none c p n = (λ none i. count_zero p n i none, count_none p n)
