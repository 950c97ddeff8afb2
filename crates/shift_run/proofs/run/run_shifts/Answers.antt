use Rattle.std.proofs.Common.{◌≡◌, ℕ, length, subst, arith}
use Rattle.shift_run.specs.Runs.{IsAtShift}
use Rattle.shift_run.proofs.run.run_shifts.Goals as goal

pub returns : goal.returns
returns g c enough =
    let all : c.shifts.shift ≡ length c.args.session.now.shifts = omega (arith, c.shifts-test.false, c.shifts.auto.shift-end, c.len-shift-end.ensures) in
    subst (λ (n : ℕ). IsAtShift c.args.session.now n c.shifts.end.desk c.shifts.end.looms.items) all c.shifts.invariant.at
