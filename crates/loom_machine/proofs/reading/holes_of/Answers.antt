use Rattle.std.proofs.Common.{◌∙◌, ◌/◌, ◌%◌, ◌-◌, arith}
use Rattle.loom_machine.proofs.reading.holes_of.Goals as goal

pub returns : goal.returns
returns c i low = c.reversed_bytes.ensures i low ∙ c.word_from.ensures (i / 8) (7 - i % 8) (omega arith) (omega arith)
