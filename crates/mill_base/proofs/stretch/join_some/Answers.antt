use Rattle.std.proofs.Common.{◌+◌, ◌||◌, ◌==◌, ap, ◌∙◌, arith}
use Rattle.std.specs.Int.{bit_at}
use Rattle.mill_base.specs.Bits.{bit_of}
use Rattle.mill_base.proofs.lemmas.Stretches.{same_join, same_laid}
use Rattle.mill_base.proofs.stretch.join_some.Goals as goal

pub returns-clause-laid : goal.returns-clause-laid
returns-clause-laid c =
    same_laid c.args.words.now.items c.put_piece.new.words.items c.args.at c.piece_len-len.result (λ i. bit_at c.joined_piece-piece.result i == 1)
    (λ i. bit_of c.args.words.now.items (c.args.at + i) || bit_of c.args.from.now (c.args.start + i)) c.put_piece.ensures
    (λ i h. c.joined_piece-piece.ensures i (let w = c.piece_len-len.ensures.within in omega arith)
    ∙ same_join _ _ _ _ (ap (λ words. bit_of words (c.args.at + i)) c.deref.ensures.value) (c.bits_from.ensures i (let w = c.piece_len-len.ensures.within in omega arith)))
