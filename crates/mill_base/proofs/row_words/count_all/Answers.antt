use Rattle.std.proofs.Common.{◌+◌, get_or, sym, ap, ◌∙◌, arith}
use Rattle.std.specs.Int.RustNames.{count_ones}
use Rattle.std.proofs.lemmas.Nat.{ones-le}
use Rattle.std.proofs.Math.Facts.{Fits-lt-pow}
use Rattle.mill_base.proofs.lemmas.BitCounts.{counted_word, counted_none}
use Rattle.mill_base.proofs.row_words.count_all.Goals as goal

pub loop-index-init : goal.loop-index-init
loop-index-init c = record { bound = omega arith; counted = sym (counted_none c.args.words.now) }

pub loop-index-preserved : goal.loop-index-preserved
loop-index-preserved c =
    let fits = Fits-lt-pow (c.type_inv.words c.loop-index.index) in
    record {
      bound = (let few = ones-le 64 (get_or c.args.words.now c.loop-index.index 0) fits in let before = c.loop-index.invariant.bound in omega arith);
      counted = ap (λ n. n + count_ones (get_or c.args.words.now c.loop-index.index 0)) c.loop-index.invariant.counted ∙ sym (counted_word c.args.words.now c.loop-index.index fits);
    }
