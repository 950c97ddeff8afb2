use Rattle.weave_book.proofs.Parts.{turned_cells}
use Rattle.weave_book.proofs.line.turned.Goals as goal

pub returns : goal.returns
returns c line again cells = turned_cells line c.args.first c.args.repeat c.args.from c.ranges.first.fits c.requires.some c.requires.few again cells
