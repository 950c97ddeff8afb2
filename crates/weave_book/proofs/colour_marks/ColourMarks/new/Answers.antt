use Rattle.std.proofs.Common.{refl}
use Rattle.weave_book.proofs.Kept.{none_there}
use Rattle.weave_book.proofs.colour_marks.ColourMarks.new.Goals as goal

pub invariant_of-result : goal.invariant_of-result
invariant_of-result c = record { words_room = refl; repeats_room = refl; kept = λ colour some. absurd (some (none_there 256 colour)) }
