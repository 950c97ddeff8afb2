use Rattle.casting_out.proofs.WithoutFault.{without_column, has_no_column}
use Rattle.casting_out.proofs.laws.cast_out_and_idle_hooks_have_no_column.Goals as goal

pub returns : goal.returns
returns c casting h is low = (without_column casting h is low, has_no_column casting h is)
