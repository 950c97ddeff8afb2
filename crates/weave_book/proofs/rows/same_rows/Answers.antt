use Rattle.std.proofs.Common.{false, refl, sym, ◌∙◌, arith}
use Rattle.std.proofs.lemmas.Bool.{both_ways}
use Rattle.weave_book.proofs.Blocks.{same_block_from, same_block_to}
use Rattle.weave_book.proofs.rows.same_rows.Goals as goal

pub returns : goal.returns
returns c = (λ _. same_block_from c.args.width c.args.height c.args.one.now c.args.other.now (λ p h. c.loop-p.invariant p (omega arith)), λ _. refl)

pub returns-then-not-same_cells : goal.returns-then-not-same_cells
returns-then-not-same_cells c = (
  λ no. absurd (both_ways false refl no),
  λ rows. sym c.if-not-same_cells.true ∙ c.same_cells.ensures.1 (same_block_to c.args.width c.args.height c.args.one.now c.args.other.now c.loop-p.p (omega arith) rows),
)
