use Rattle.std.proofs.Common.{refl}
use Rattle.mill_base.proofs.lemmas.Blocks.{line_turned}
use Rattle.mill_base.proofs.turning.turn_into.Goals as goal

pub returns-clause-turned : goal.returns-clause-turned
returns-clause-turned c =
    line_turned c.args.words.now c.args.out.now c.lay_words.new.out c.lay_words-2.new.out c.start_again.new.out c.start_again.new.out c.args.len c.args.by c.word_count.result
    c.requires.by c.word_count.ensures c.requires.clear c.lay_words.ensures c.lay_words-2.ensures c.start_again.ensures.again (λ k h. refl)
