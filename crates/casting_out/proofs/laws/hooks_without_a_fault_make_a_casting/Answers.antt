use Rattle.casting_out.proofs.Builds.{is_casting}
use Rattle.casting_out.proofs.WithoutFault.{none_of_casting, casting_of_none, columns_of_none}
use Rattle.casting_out.proofs.laws.hooks_without_a_fault_make_a_casting.Goals as goal

pub returns-clause-none : goal.returns-clause-none
returns-clause-none c hooks cast_out columns = (casting_of_none hooks cast_out columns, none_of_casting hooks cast_out columns)

pub returns-clause-casting : goal.returns-clause-casting
returns-clause-casting c = is_casting

pub returns-clause-columns : goal.returns-clause-columns
returns-clause-columns c = columns_of_none
