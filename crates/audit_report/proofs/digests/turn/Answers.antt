use Rattle.std.proofs.Common.{arith}
use Rattle.audit_report.proofs.Rows.{turned_is}
use Rattle.audit_report.proofs.digests.turn.Goals as goal

pub returns : goal.returns
returns c =
    let i = c.loop-pick.invariant in
    turned_is c.loop-pick.cloth c.args.cloth.now i.ends i.many (λ k h. i.done k (omega (arith, h, c.loop-pick-test.false, c.picks-pick-end.ensures)))
