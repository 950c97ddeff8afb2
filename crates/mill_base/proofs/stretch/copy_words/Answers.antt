use Rattle.std.proofs.Common.{◌≡◌, ◌+◌, ◌-◌, ◌*◌, ◌/◌, ◌%◌, ◌∙◌, length, take, drop, ap, arith}
use Rattle.std.proofs.lemmas.List.{length-drop, length-take-le}
use Rattle.mill_base.specs.Bits.{bit_of}
use Rattle.mill_base.proofs.lemmas.Blocks.{bit_dropped, part_laid}
use Rattle.mill_base.proofs.stretch.copy_words.Goals as goal

pub returns : goal.returns
returns c =
    let from = c.args.from.now in
    let out = c.args.out.now in
    let first = c.args.start / 64 in
    let k = c.args.at + c.args.count - c.args.at in
    let is : k ≡ c.args.count = omega arith in
    let long : length (take k (drop c.args.at out)) ≡ k = length-take-le k (drop c.args.at out) (omega (arith, length-drop c.args.at out, c.requires.room)) in
    part_laid out c.move_words.new.out c.args.at k c.args.count (λ i. bit_of from (c.args.start + i)) c.requires.room is (c.move_words.ensures.len ∙ long ∙ is)
    (λ i h. c.move_words.ensures.bits i (omega arith)
    ∙ bit_dropped from (length from - first) first (c.args.start % 64 + i) (omega arith)
    ∙ ap (bit_of from) (omega arith))
