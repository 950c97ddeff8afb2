use Rattle.std.proofs.Common.{◌+◌, ◌-◌, ◌∙◌, length, get_or, drop, ap, length-set, arith}
use Rattle.std.proofs.lemmas.List.{get_or-take, get_or-drop}
use Rattle.std.specs.Int.{bit_at}
use Rattle.mill_base.proofs.lemmas.Blocks.{word_moved}
use Rattle.mill_base.proofs.stretch.shift_words.Goals as goal

pub loop-index-preserved : goal.loop-index-preserved
loop-index-preserved c = record {
  long = length-set c.loop-index.out c.loop-index.index c.joined.result ∙ c.loop-index.invariant.long;
  done = word_moved c.args.from.now c.loop-index.out c.args.shift c.loop-index.index c.joined.result (let long = c.loop-index.invariant.long in omega arith) c.requires.within
      (λ j h. c.joined.ensures.low j h ∙ ap (λ w. bit_at w (j + c.args.shift)) (get_or-take (length c.args.out.now) c.args.from.now c.loop-index.index 0 (omega arith)))
      (λ j within h. c.joined.ensures.high j within h ∙ ap (λ w. bit_at w (j + c.args.shift - 64)) (get_or-take (length c.args.out.now + 1 - 1) (drop 1 c.args.from.now) c.loop-index.index 0 (omega arith) ∙ get_or-drop 1 c.args.from.now c.loop-index.index 0 ∙ ap (λ q. get_or c.args.from.now q 0) (omega arith)))
      c.loop-index.invariant.done;
}
