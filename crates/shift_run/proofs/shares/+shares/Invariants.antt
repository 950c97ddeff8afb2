use Rattle.std.proofs.Common.{◌+◌, ◌-◌, ◌*◌}
use Rattle.shift_run.proofs.shares.+shares.Given as goal

abbrev pub decreases-weave_share : goal.decreases-weave_share
decreases-weave_share g l = 8 * l.threads

abbrev pub decreases-weave_halves : goal.decreases-weave_halves
decreases-weave_halves g l = 8 * l.threads - 1

abbrev pub decreases-weave_both : goal.decreases-weave_both
decreases-weave_both g l = 8 * (l.low + l.high) - 2

abbrev pub decreases-weave_both-one : goal.decreases-weave_both-one
decreases-weave_both-one g l = 8 * l.low + 1

abbrev pub decreases-weave_both-other : goal.decreases-weave_both-other
decreases-weave_both-other g l = 8 * l.high + 2

abbrev pub decreases-weave_behind : goal.decreases-weave_behind
decreases-weave_behind g l = 8 * l.threads + 1
