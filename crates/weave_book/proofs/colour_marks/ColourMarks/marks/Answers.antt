use Rattle.std.proofs.Common.{◌==◌, ◌+◌, ◌*◌, get_or, w64, ◌∙◌, arith, eq-eqb, refl}
use Rattle.std.proofs.lemmas.Nat.Bits.{bit_at_ones, bit_at-trailing_zeros}
use Rattle.std.specs.Int.{bit_at, trailing_zeros}
use Rattle.weave_book.specs.Books.{colour_mark}
use Rattle.weave_book.proofs.Kept.{fewer_left, placed_more, same_mark}
use Rattle.weave_book.proofs.colour_marks.ColourMarks.marks.Goals as goal

pub loop-left-init : goal.loop-left-init
loop-left-init c = record { same = (refl, refl); marks = λ j h gone. let set_ = bit_at_ones 64 j h in absurd (omega (arith, set_, gone)) }

pub loop-left-smaller : goal.loop-left-smaller
loop-left-smaller c =
    let first = bit_at-trailing_zeros w64 c.loop-left.left (omega arith) (omega arith) in
    fewer_left c.loop-left.left c.places_of-alike.result (trailing_zeros w64 c.loop-left.left) (omega arith) (omega arith) first.0 first.1
    (c.places_of-alike.ensures (trailing_zeros w64 c.loop-left.left) first.0 ∙ eq-eqb (get_or c.args.cells.now (trailing_zeros w64 c.loop-left.left) 0) _ refl)

pub loop-left-preserved : goal.loop-left-preserved
loop-left-preserved c = record {
  same = (c.word.ensures.same.0 ∙ c.loop-left.invariant.same.0, c.word.ensures.same.1 ∙ c.loop-left.invariant.same.1);
  marks = λ j h gone. placed_more (λ j. colour_mark c.args.self.now.weaves.now (get_or c.args.cells.now j 0) (64 * c.args.at + j) c.args.self.now.pick)
      c.args.cells.now (get_or c.args.cells.now (trailing_zeros w64 c.loop-left.left) 0) c.loop-left.left c.places_of-alike.result c.loop-left.marks c.word.result c.merged-marks.result j
      (omega arith) h (c.places_of-alike.ensures j h) (c.loop-left.invariant.marks j h) (λ of_it.
      same_mark c.args.self.now.weaves.now c.loop-left.self.weaves.now (get_or c.args.cells.now j 0) (get_or c.args.cells.now (trailing_zeros w64 c.loop-left.left) 0)
      (64 * c.args.at + j) c.args.self.now.pick c.loop-left.self.pick (bit_at c.word.result j == 1) c.loop-left.invariant.same.0 c.loop-left.invariant.same.1 of_it (c.word.ensures.marks j h))
      (c.merged-marks.ensures.outside j h) (c.merged-marks.ensures.inside j h) gone;
}
