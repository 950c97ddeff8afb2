use Rattle.std.proofs.Common.{◌≡◌, ◌≢◌, ◌/◌, ◌%◌, ◌==◌, ap, ◌∙◌, ⊎_elim, length-set, arith}
use Rattle.std.proofs.lemmas.Bool.{cases_eq}
use Rattle.mill_base.proofs.lemmas.RotatedRows.{bit_of_set_here, bit_of_set_others}
use Rattle.mill_base.proofs.row_words.put_word.Goals as goal

pub returns-clause-row : goal.returns-clause-row
returns-clause-row c =
    let long = length-set c.args.words.now.items c.args.at c.kept.result in
    record {
      enough = long ∙ c.requires.room.enough;
      clear = λ k from below. ⊎_elim
          (λ (here : k / 64 ≡ c.args.at).
          bit_of_set_here c.args.words.now.items c.args.at c.kept.result k c.requires.at here ∙ ap (λ b. b == 1) (c.kept.ensures.past (k % 64) (omega arith) (omega arith)))
          (λ (away : k / 64 ≢ c.args.at).
          bit_of_set_others c.args.words.now.items c.args.at c.kept.result k away ∙ c.requires.room.clear k from (omega (arith, long, below)))
          (cases_eq (k / 64) c.args.at);
    }

pub returns-clause-here : goal.returns-clause-here
returns-clause-here c k within at =
    bit_of_set_here c.args.words.now.items c.args.at c.kept.result k c.requires.at at ∙ ap (λ b. b == 1) (c.kept.ensures.below (k % 64) (omega arith) (omega arith))

pub returns-clause-others : goal.returns-clause-others
returns-clause-others c k within away = bit_of_set_others c.args.words.now.items c.args.at c.kept.result k away
