use Rattle.tile_marks.proofs.Marked.{length-with_near, get_or-with_near, itself_with_near}
use Rattle.tile_marks.proofs.laws.a_set_with_near_tiles_has_those_and_no_others.Goals as goal

pub returns-clause-len : goal.returns-clause-len
returns-clause-len c = length-with_near

pub returns-clause-tiles : goal.returns-clause-tiles
returns-clause-tiles c = get_or-with_near

pub returns-clause-itself : goal.returns-clause-itself
returns-clause-itself c = itself_with_near
