use Rattle.std.proofs.Common.{◌<◌, length, arith}
use Rattle.shift_run.proofs.InOrder.{shift_done}
use Rattle.shift_run.proofs.unread.do_shifts.Goals as goal

pub shifts-preserved : goal.shifts-preserved
shifts-preserved g c =
    let there : c.shifts.shift < length c.args.session.now.shifts = omega (arith, c.shifts-test.true, c.len-shift-end.ensures) in
    shift_done c.args.session.now c.shifts.shift c.shifts.unread c.do_acts.new.unread there c.shifts.invariant c.in_ok-do_acts.ensures
