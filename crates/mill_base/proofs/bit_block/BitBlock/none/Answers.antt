use Rattle.std.proofs.Common.{◌≡◌, ◌<◌, ◌≤◌, ◌∙◌, length, sym, ⊎_elim, arith}
use Rattle.std.proofs.lemmas.Bool.{cases_lt}
use Rattle.mill_base.proofs.lemmas.Rows.{length_is}
use Rattle.mill_base.proofs.lemmas.Blocks.{cell_of}
use Rattle.mill_base.proofs.bit_block.BitBlock.none.Goals as goal

pub returns : goal.returns
returns c =
    let row = c.args.self.now in
    let n = c.self.inside.len in
    let long : n ≡ length row = length_is c.self.inside.words n row c.self.view_is in (
      λ clear k h. sym (cell_of c.self.inside.words n k row c.self.view_is (omega arith)) ∙ c.are_clear.ensures.0 clear k (omega (arith, c.word_count.ensures)),
      λ each. c.are_clear.ensures.1 (λ k _. ⊎_elim
          (λ (h : k < n). cell_of c.self.inside.words n k row c.self.view_is h ∙ each k (omega arith))
          (λ (h : n ≤ k). c.self.invariant.clear k h)
          (cases_lt k n)),
    )
