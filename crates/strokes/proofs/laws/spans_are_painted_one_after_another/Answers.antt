use Rattle.strokes.proofs.Painted.{spans_painted}
use Rattle.strokes.proofs.laws.spans_are_painted_one_after_another.Goals as goal

pub returns : goal.returns
returns c = spans_painted
