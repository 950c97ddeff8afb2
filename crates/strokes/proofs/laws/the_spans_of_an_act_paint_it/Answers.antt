use Rattle.strokes.proofs.Painted.{act_painted}
use Rattle.strokes.proofs.laws.the_spans_of_an_act_paint_it.Goals as goal

pub returns : goal.returns
returns c = act_painted
