use Rattle.std.proofs.Common.{◌∙◌, sym, arith}
use Rattle.loom_threads.proofs.Repeats.{same_cloth}
use Rattle.loom_threads.proofs.weaver.copy_rows.Goals as goal

pub returns : goal.returns
returns c =
    same_cloth c.loop-pick.to c.args.from.now (c.loop-pick.invariant.ends ∙ sym c.requires.wide) (c.loop-pick.invariant.picks ∙ sym c.requires.high)
    (λ k h. c.loop-pick.invariant.rows k (omega (arith, c.loop-pick-test.false, c.picks-pick-end.ensures)))
