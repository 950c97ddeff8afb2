use Rattle.mill_base.proofs.lemmas.Lines.{length-line_by, get_or-line_by}
use Rattle.mill_base.proofs.laws.a_line_is_its_items.Goals as goal

pub returns-clause-length : goal.returns-clause-length
returns-clause-length g c n item = length-line_by n item

pub returns-clause-items : goal.returns-clause-items
returns-clause-items g c n k item d h = get_or-line_by n item k d h
