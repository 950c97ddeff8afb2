use Rattle.std.proofs.Common.{◌+◌, ◌-◌, ◌*◌, ◌/◌, ◌||◌, ◌==◌, refl, ap, ◌∙◌, arith}
use Rattle.std.specs.Int.{bit_at}
use Rattle.mill_base.specs.Bits.{bit_of}
use Rattle.mill_base.proofs.lemmas.Stretches.{same_join, same_laid, slice_laid}
use Rattle.mill_base.proofs.stretch.join_some_down.Goals as goal

pub returns-clause-laid : goal.returns-clause-laid
returns-clause-laid c =
    same_laid c.args.words.now.items c.put_piece.new.words.items c.args.at c.piece_len-len.result (λ i. bit_at c.joined_piece-piece.result i == 1)
    (λ i. bit_of c.args.words.now.items (c.args.at + i) || bit_of c.args.from.now (c.args.start - i)) c.put_piece.ensures
    (λ i h. c.joined_piece-piece.ensures i (let w = c.piece_len-len.ensures.within in omega arith)
    ∙ same_join _ _ _ _ (ap (λ words. bit_of words (c.args.at + i)) c.deref.ensures.value)
    (c.bits_down.ensures i (let w = c.piece_len-len.ensures.within in omega arith) (let a = c.piece_len-len.ensures.left in let b = c.requires.down in omega arith)))

pub returns-then-whole-gt0-clause-laid : goal.returns-then-whole-gt0-clause-laid
returns-then-whole-gt0-clause-laid c =
    let begin = c.whole_words_down-whole.ensures.begin c.if-whole-gt0.true in
    slice_laid c.args.words.now.items c.deref_mut.result.now c.join_words_down.new.out c.args.words.now.len (64 * (c.args.at / 64)) c.args.at (64 * c.whole_words_down-whole.result)
    (λ i. bit_of c.deref_mut.result.now (64 * (c.args.at / 64) + i) || bit_of c.args.from.now (c.args.start - i))
    (λ i. bit_of c.args.words.now.items (c.args.at + i) || bit_of c.args.from.now (c.args.start - i))
    c.deref_mut.ensures.value c.args.words.now.ok.0 (omega arith) c.join_words_down.ensures
    (λ i h. same_join _ _ _ _ (ap (λ words. bit_of words (64 * (c.args.at / 64) + i)) c.deref_mut.ensures.value ∙ ap (bit_of c.args.words.now.items) (omega arith)) refl)
