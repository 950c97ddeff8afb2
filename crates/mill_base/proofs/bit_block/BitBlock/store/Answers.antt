use Rattle.std.proofs.Common.{◌≡◌, ◌∙◌, length, arith}
use Rattle.mill_base.proofs.lemmas.Rows.{length_is, same_cells}
use Rattle.mill_base.proofs.lemmas.Blocks.{cell_of}
use Rattle.mill_base.proofs.bit_block.BitBlock.store.Goals as goal

pub put_word-requires : goal.put_word-requires
put_word-requires c =
    let long = length_is c.self.inside.words c.self.inside.len c.args.self.now c.self.view_is in
    omega (arith, c.requires, c.word_count-index-end.ensures)

pub returns : goal.returns
returns c =
    let row = c.args.self.now in
    let n = c.self.inside.len in
    let long : n ≡ length row = length_is c.self.inside.words n row c.self.view_is in
    same_cells c.loop-index.out row (omega (arith, c.requires))
    (λ k h. c.loop-index.invariant.done k h (omega (arith, c.requires, c.word_count-index-end.ensures))
    ∙ cell_of c.self.inside.words n k row c.self.view_is (omega (arith, c.requires)))
