use Rattle.std.proofs.Common.{◌≡◌, ◌<◌, ◌≤◌, ◌∙◌, ◌*◌, length, get_or, false, cond, ap, ⊎_elim, arith}
use Rattle.std.proofs.lemmas.Bool.{cases_lt, cond-false}
use Rattle.mill_base.specs.Bits.{bit_of}
use Rattle.mill_base.proofs.lemmas.Rows.{length_is}
use Rattle.mill_base.proofs.lemmas.Blocks.{line_is, cell_of}
use Rattle.mill_base.proofs.bit_block.BitBlock.select.Goals as goal

pub invariant_of-result : goal.invariant_of-result
invariant_of-result c =
    let n = c.self.inside.len in
    let long : n ≡ length c.args.self.now = length_is c.self.inside.words n c.args.self.now c.self.view_is in
    let other : c.other.inside.len ≡ length c.args.other.now = length_is c.other.inside.words c.other.inside.len c.args.other.now c.other.view_is in
    record {
      some = c.self.invariant.some;
      most = c.self.invariant.most;
      clear = λ k h. ⊎_elim
          (λ (within : k < 64 * c.word_count.result).
          c.merged_words.ensures.here k within
          ∙ cond-false (bit_of c.self.inside.words k) (bit_of c.one.inside.words k) (bit_of c.other.inside.words k) (c.self.invariant.clear k h)
          ∙ c.other.invariant.clear k (omega (arith, c.requires.other)))
          (λ (past : 64 * c.word_count.result ≤ k). c.merged_words.ensures.past k past)
          (cases_lt k (64 * c.word_count.result));
    }

pub returns : goal.returns
returns c =
    let row = c.args.self.now in
    let n = c.self.inside.len in
    let long : n ≡ length row = length_is c.self.inside.words n row c.self.view_is in
    let one : c.one.inside.len ≡ length c.args.one.now = length_is c.one.inside.words c.one.inside.len c.args.one.now c.one.view_is in
    let other : c.other.inside.len ≡ length c.args.other.now = length_is c.other.inside.words c.other.inside.len c.args.other.now c.other.view_is in
    line_is c.self.inside.words n row (λ k. cond (get_or row k false) (get_or c.args.one.now k false) (get_or c.args.other.now k false)) c.self.view_is c.merged_words.result
    (λ k h.
    c.merged_words.ensures.here k (omega (arith, c.word_count.ensures))
    ∙ ap (λ b. cond b (bit_of c.one.inside.words k) (bit_of c.other.inside.words k)) (cell_of c.self.inside.words n k row c.self.view_is h)
    ∙ ap (λ b. cond (get_or row k false) b (bit_of c.other.inside.words k)) (cell_of c.one.inside.words c.one.inside.len k c.args.one.now c.one.view_is (omega (arith, c.requires.one)))
    ∙ ap (λ b. cond (get_or row k false) (get_or c.args.one.now k false) b) (cell_of c.other.inside.words c.other.inside.len k c.args.other.now c.other.view_is (omega (arith, c.requires.other))))
