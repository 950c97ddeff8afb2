use Rattle.shift_run.proofs.Short.{nothing_left}
use Rattle.shift_run.proofs.shift.do_shift.Goals as goal

pub returns-in_default : goal.returns-in_default
returns-in_default g c = nothing_left c.args.session.now c.args.shift c.args.desk.now c.args.looms.now.items c.requires.before

pub returns-in_default-with_capacity : goal.returns-in_default-with_capacity
returns-in_default-with_capacity g c = nothing_left c.args.session.now c.args.shift c.args.desk.now c.args.looms.now.items c.requires.before
