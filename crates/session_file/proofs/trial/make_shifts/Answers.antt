use Rattle.std.proofs.Common.{◌≡◌, length, ap, ◌∙◌, arith}
use Rattle.session_file.proofs.Trials.{all_acts}
use Rattle.session_file.proofs.trial.make_shifts.Goals as goal

pub split_off-requires : goal.split_off-requires
split_off-requires c =
    let whole : length c.in_ok-acts.acts.items ≡ 400 = ap length c.in_ok-acts.ensures ∙ all_acts c.args.n in
    omega (arith, c.in_ok-acts.acts.ok, whole)
