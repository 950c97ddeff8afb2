use Rattle.std.proofs.Common.{rules}
use Rattle.audit_report.proofs.Rows.{joined_is}
use Rattle.audit_report.proofs.ending.join_repeats.Goals as goal

pub returns : goal.returns
returns c =
    let i = c.loop-loom.invariant in
    joined_is c.loop-loom.before.items c.args.before.now.items c.args.woven.now.items i.many (λ k h. i.done k (search rules))
