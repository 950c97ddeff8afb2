use Rattle.point_paper.proofs.Spans.{span_painted}
use Rattle.point_paper.proofs.paper.Paper.paint_span.Goals as goal

pub returns : goal.returns
returns c =
    span_painted c.self.inside.size.columns c.self.inside.size.picks c.self.inside.colours.items c.args.self.now c.args.span.now c.fill_part.new.colours.items
    c.self.view_is c.self.invariant c.requires.pick c.requires.columns c.fill_part.ensures
