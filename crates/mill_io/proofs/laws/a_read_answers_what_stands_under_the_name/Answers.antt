use Rattle.mill_io.proofs.lemmas.Answered.{read_longer, read_nothing, read_within}
use Rattle.mill_io.proofs.laws.a_read_answers_what_stands_under_the_name.Goals as goal

pub returns : goal.returns
returns c = record { within = read_within; longer = read_longer; missing = read_nothing }
