use Rattle.std.proofs.Common.{arith}
use Rattle.mill_base.proofs.lemmas.Blocks.{word_again, no_rest}
use Rattle.mill_base.proofs.turning.start_again.Goals as goal

pub returns-then-past-eq0-clause-again : goal.returns-then-past-eq0-clause-again
returns-then-past-eq0-clause-again c = no_rest c.args.line.now c.args.out.now c.args.behind c.if-past-eq0.true

pub returns-clause-again : goal.returns-clause-again
returns-clause-again c =
    word_again c.args.line.now c.args.out.now c.args.behind c.with_start.result (omega arith) c.with_start.ensures.below c.with_start.ensures.above (omega arith)
