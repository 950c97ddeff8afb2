use Rattle.std.proofs.Common.{arith}
use Rattle.studio_core.proofs.walking.are_apart.Goals as goal

pub overflow_add-from : goal.overflow_add-from
overflow_add-from c = let h = c.in-Some.ensures.some.within in omega arith
