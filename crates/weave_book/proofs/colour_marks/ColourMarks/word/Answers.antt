use Rattle.weave_book.specs.Books.{colour_mark}
use Rattle.weave_book.proofs.colour_marks.ColourMarks.word.Goals as goal

pub returns-clause-marks : goal.returns-clause-marks
returns-clause-marks c =
    let kept = c.args.self.now.kept c.args.colour c.if-repeat-eq0.false in
    c.turned.ensures (λ x. colour_mark c.args.self.now.weaves.now c.args.colour x c.args.self.now.pick) kept.again kept.cells
