use Rattle.std.proofs.Common.{◌+◌, ◌*◌, count_by, arith}
use Rattle.studio_core.proofs.Central.{all_bound}
use Rattle.studio_core.proofs.Walked.{whole_most}
use Rattle.studio_core.proofs.settling.settle_bind.Goals as goal

pub returns-then-count-many-clause-most : goal.returns-then-count-many-clause-most
returns-then-count-many-clause-most g c =
    let design = c.args.design.now in
    whole_most (design.size.columns * design.size.picks) c.many.result (count_by (λ b. b) c.args.bind.now) (2 * design.tile * (design.size.columns + design.size.picks)) c.args.steps.now c.bind_whole.new.steps
    c.bind_whole.ensures.steps c.many.ensures (omega (arith, c.if-count-many.true, c.count.ensures))

pub returns-clause-bound : goal.returns-clause-bound
returns-clause-bound g c =
    all_bound c.args.design.now c.args.paper.now c.bind_tiles.new.bits c.bind_tiles.new.bind c.requires.paper c.bind_tiles.ensures.bits c.size.ensures.whole c.bind_tiles.ensures.cells c.bind_tiles.ensures.clear
