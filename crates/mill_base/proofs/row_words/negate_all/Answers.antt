use Rattle.std.proofs.Common.{◌≡◌, ◌≢◌, ◌<◌, ◌/◌, ◌%◌, ◌==◌, not, length, get_or, length-set, sym, ap, ◌∙◌, ⊎_elim, arith}
use Rattle.std.proofs.lemmas.Bool.{cases_eq}
use Rattle.std.specs.Int.{bit_at}
use Rattle.std.proofs.lemmas.List.{get_or_default}
use Rattle.mill_base.proofs.lemmas.RotatedRows.{bit_of_set_here, bit_of_set_others}
use Rattle.mill_base.proofs.row_words.negate_all.Goals as goal

pub loop-index-preserved : goal.loop-index-preserved
loop-index-preserved c =
    let there : c.loop-index.index < length c.loop-index.words.items = (let a = c.loop-index-test.true in let e = c.len-index-end.ensures in let long = c.loop-index.invariant.long in omega arith) in
    let word : c.index.result.now ≡ get_or c.loop-index.words.items c.loop-index.index 0 = c.index.ensures ∙ get_or_default c.loop-index.words.items c.loop-index.index c.index.result.now 0 there in
    record {
      long = length-set c.loop-index.words.items c.loop-index.index c.negated.result ∙ c.loop-index.invariant.long;
      done = λ k h. ⊎_elim
          (λ (same : k / 64 ≡ c.loop-index.index). bit_of_set_here c.loop-index.words.items c.loop-index.index c.negated.result k there same
          ∙ c.negated.ensures (k % 64) (omega arith) ∙ ap (λ w. not (bit_at w (k % 64) == 1)) word
          ∙ ap (λ q. not (bit_at (get_or c.loop-index.words.items q 0) (k % 64) == 1)) (sym same) ∙ ap not (c.loop-index.invariant.rest k (omega arith)))
          (λ (away : k / 64 ≢ c.loop-index.index). bit_of_set_others c.loop-index.words.items c.loop-index.index c.negated.result k away ∙ c.loop-index.invariant.done k (omega arith))
          (cases_eq (k / 64) c.loop-index.index);
      rest = λ k h. bit_of_set_others c.loop-index.words.items c.loop-index.index c.negated.result k (omega arith) ∙ c.loop-index.invariant.rest k (omega arith);
    }
