use Rattle.mill_base.specs.Lines.{line_by}
use Rattle.session_file.proofs.trial.hooks_cast_out.Goals as goal

pub loop-k-init : goal.loop-k-init
unfolding line_by
loop-k-init c = c.in_ok-hooks.ensures.items
