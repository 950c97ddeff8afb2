use Rattle.std.proofs.Common.{◌≡◌, ◌+◌, ◌*◌}
use Rattle.mill_base.specs.Lines.{line_by}
use Rattle.session_file.proofs.trial.hooks_cast_out.Given as goal

abbrev pub invariant-loop-k : goal.invariant-loop-k
invariant-loop-k l = l.hooks.items ≡ line_by l.k (λ k. 7 + 25 * k)
