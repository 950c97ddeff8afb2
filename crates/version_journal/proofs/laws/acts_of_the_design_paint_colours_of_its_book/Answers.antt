use Rattle.version_journal.proofs.Papers.{of_the_design, spans_below}
use Rattle.version_journal.proofs.laws.acts_of_the_design_paint_colours_of_its_book.Goals as goal

pub returns-clause-acts : goal.returns-clause-acts
returns-clause-acts c = of_the_design

pub returns-clause-spans : goal.returns-clause-spans
returns-clause-spans c = spans_below
