use Rattle.strokes.proofs.Painted.{painted_colour}
use Rattle.strokes.proofs.laws.an_act_paints_with_colours_of_the_book.Goals as goal

pub returns : goal.returns
returns c = painted_colour
