use Rattle.std.proofs.Common.{◌+◌, arith}
use Rattle.strokes.proofs.LinePlaces.{stretch_covers}
use Rattle.strokes.proofs.corners.Corners.span.Goals as goal

pub returns-clause-cells : goal.returns-clause-cells
returns-clause-cells c column pick =
    stretch_covers c.args.self.now.column0 c.args.self.now.pick0 c.args.self.now.column1 c.args.self.now.pick1 c.args.start c.args.end c.min.result (c.abs_diff.result + 1) c.pick.result column pick
    c.requires.ahead c.requires.within c.requires.level
    (omega (arith, c.min.ensures, c.column-first.ensures.place, c.column-last.ensures.place))
    (omega (arith, c.min.ensures, c.abs_diff.ensures, c.column-first.ensures.place, c.column-last.ensures.place))
    c.pick.ensures.place
