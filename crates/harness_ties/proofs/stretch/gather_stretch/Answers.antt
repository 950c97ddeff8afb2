use Rattle.std.proofs.Common.{◌-◌, arith}
use Rattle.harness_ties.proofs.Stretches.{joined_rising, joined_falling}
use Rattle.harness_ties.proofs.stretch.gather_stretch.Goals as goal

pub returns-then-stretch-clause-each : goal.returns-then-stretch-clause-each
returns-then-stretch-clause-each c =
    joined_falling c.args.stretch c.args.end (c.args.stretch.count - 1) c.args.ends.now c.args.columns.now c.or_range_reversed.new.self c.if-stretch.true
    (omega (arith, c.requires.columns.some)) (omega (arith, c.requires.columns.falls c.if-stretch.true)) c.or_range_reversed.ensures

pub returns-else-stretch-clause-each : goal.returns-else-stretch-clause-each
returns-else-stretch-clause-each c = joined_rising c.args.stretch c.args.end c.args.ends.now c.args.columns.now c.or_range.new.self c.if-stretch.false c.or_range.ensures
