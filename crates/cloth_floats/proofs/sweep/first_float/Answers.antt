use Rattle.cloth_floats.proofs.Indexed.{first_mixed, first_uniform}
use Rattle.cloth_floats.proofs.sweep.first_float.Goals as goal

pub returns-in-Some : goal.returns-in-Some
returns-in-Some g c = first_mixed (g.L.Line.cells c.args.line.now) c.in-Some.start c.float_at.result c.in-Some.ensures c.float_at.ensures.float

pub returns-in-None : goal.returns-in-None
returns-in-None g c = first_uniform (g.L.Line.cells c.args.line.now) c.endless_float.result c.in-None.ensures c.endless_float.ensures
