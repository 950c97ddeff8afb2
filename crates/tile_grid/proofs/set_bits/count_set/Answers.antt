use Rattle.std.proofs.Common.{◌+◌, ◌*◌, ◌/◌, ◌%◌, ◌≡◌, get_or, arith, ap, ◌∙◌}
use Rattle.std.proofs.lemmas.Nat.{ones-le}
use Rattle.std.proofs.Math.Facts.{Fits-lt-pow}
use Rattle.mill_base.specs.Below.{count_below}
use Rattle.mill_base.specs.Bits.{bit_of}
use Rattle.tile_grid.proofs.Counts.{count_word, count_in_word}
use Rattle.tile_grid.proofs.set_bits.count_set.Goals as goal

pub loop-index-preserved : goal.loop-index-preserved
loop-index-preserved c =
    let fits = Fits-lt-pow (c.type_inv.words c.loop-index.index) in
    let more = count_word c.args.words.now c.loop-index.index fits in
    let few = ones-le 64 (get_or c.args.words.now c.loop-index.index 0) fits in
    record { few = omega (arith, few, c.loop-index.invariant.few); count = omega (arith, more, c.loop-index.invariant.count) }

pub returns : goal.returns
returns c =
    let words = c.args.words.now in
    let whole : c.loop-index.index ≡ c.args.n / 64 = omega (arith, c.loop-index-test.false, c.loop-index.auto.index-end) in
    let so_far : c.loop-index.total ≡ count_below (bit_of words) (64 * (c.args.n / 64)) = c.loop-index.invariant.count ∙ ap (λ i. count_below (bit_of words) (64 * i)) whole in
    let rest = count_in_word words (c.args.n / 64) (c.args.n % 64) (omega arith) in
    let place : 64 * (c.args.n / 64) + c.args.n % 64 ≡ c.args.n = omega arith in
    omega (arith, so_far, rest, c.count_low.ensures.count) ∙ ap (count_below (bit_of words)) place
