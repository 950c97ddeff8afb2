use Rattle.std.proofs.Common.{sym, ◌∙◌, ℕ, subst, ◌<◌}
use Rattle.mill_base.proofs.lemmas.Rows.{bits_are}
use Rattle.mill_base.proofs.bit_block.BitBlock.of.Goals as goal

pub returns : goal.returns
returns c = sym (bits_are c.args.row.now c.copied.result c.len.result (sym c.len.ensures)
    (λ k h. sym (c.copied.ensures k ∙ c.words.ensures.bits k (subst (λ (n : ℕ). k < n) c.len.ensures h))))
