use Rattle.std.proofs.Common.{[]}
use Rattle.shift_run.proofs.Single.{single_order}
use Rattle.shift_run.proofs.laws.one_painter_fixes_the_order.Goals as goal

pub returns : goal.returns
returns c session log legal few = single_order session log legal (λ j h. few j (record { repeats = []; painters = [] }) h)
