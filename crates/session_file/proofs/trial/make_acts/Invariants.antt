use Rattle.std.proofs.Common.{◌≡◌, ◌+◌}
use Rattle.mill_base.specs.Lines.{line_by}
use Rattle.session_file.specs.Trials.{act_of, drawn, draws_before}
use Rattle.session_file.proofs.trial.make_acts.Given as goal

abbrev pub invariant-loop-k : goal.invariant-loop-k
invariant-loop-k l = record {
  acts : l.acts.items ≡ line_by l.k (λ k. act_of l.n (k + 1));
  drawn : l.x ≡ drawn l.n (draws_before (l.k + 1));
}
