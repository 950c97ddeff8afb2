use Rattle.std.proofs.Common.{◌≡◌, ◌+◌, ◌-◌, ◌||◌, ◌∙◌, length, get_or, false, ap, arith}
use Rattle.mill_base.specs.Bits.{bit_of}
use Rattle.mill_base.specs.Lines.{cell_round}
use Rattle.mill_base.proofs.lemmas.Rows.{length_is}
use Rattle.mill_base.proofs.lemmas.Blocks.{line_is, cell_of, cell_turned}
use Rattle.mill_base.proofs.bit_block.BitBlock.join_behind.Goals as goal

pub overflow_sub-self-inside : goal.overflow_sub-self-inside
overflow_sub-self-inside c = let long = length_is c.self.inside.words c.self.inside.len c.args.self.now c.self.view_is in omega (arith, c.requires)

pub returns : goal.returns
returns c =
    let row = c.args.self.now in
    let n = c.self.inside.len in
    let long : n ≡ length row = length_is c.self.inside.words n row c.self.view_is in
    line_is c.self.inside.words n row (λ k. get_or row k false || cell_round row (k + length row - c.args.by)) c.self.view_is c.join_turned.new.words
    (λ k h.
    c.join_turned.ensures.joined k h
    ∙ ap (λ b. b || bit_of c.join_turned.new.spare k) (cell_of c.self.inside.words n k row c.self.view_is h)
    ∙ ap (λ b. get_or row k false || b) (cell_turned c.self.inside.words c.join_turned.new.spare n (n - c.args.by) k row (omega arith) c.self.view_is c.join_turned.ensures.turned h
    ∙ ap (cell_round row) (omega (arith, c.requires))))
