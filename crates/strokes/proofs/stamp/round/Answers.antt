use Rattle.std.proofs.Common.{◌+◌, ◌-◌, refl, arith}
use Rattle.strokes.proofs.Rounds.{is_round}
use Rattle.strokes.proofs.stamp.round.Goals as goal

pub returns-then-by-n-clause-steps : goal.returns-then-by-n-clause-steps
returns-then-by-n-clause-steps c x below =
    is_round c.args.n c.args.at c.args.by (c.args.at + c.args.by) x c.requires.at c.requires.by below (λ _. refl) (λ past. absurd (omega (arith, past, c.if-by-n.true)))

pub returns-else-by-n-clause-steps : goal.returns-else-by-n-clause-steps
returns-else-by-n-clause-steps c x below =
    is_round c.args.n c.args.at c.args.by (c.args.by - (c.args.n - c.args.at)) x c.requires.at c.requires.by below (λ ahead. absurd (omega (arith, ahead, c.if-by-n.false)))
    (λ past. omega (arith, c.requires.at))
