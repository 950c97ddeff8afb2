use Rattle.weave_book.specs.Weaves.{mark}
use Rattle.weave_book.proofs.weaves.Weave.marks_from.Goals as goal

pub returns : goal.returns
returns c = c.spread.ensures (λ x. mark c.args.self.now x c.args.pick) c.args.from (c.repeat-repeat.ensures.again c.args.pick) c.some_marks-2.ensures.marks
