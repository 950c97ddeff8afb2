use Rattle.std.proofs.Common.{◌≡◌, ◌≢◌, ◌/◌, ◌%◌, ◌==◌, ◌<◌, refl, ℕ, false, length, get_or, subst, ◌∙◌, ⊎_elim, arith}
use Rattle.std.proofs.lemmas.Bool.{cases_eq}
use Rattle.mill_base.proofs.lemmas.Lines.{line_is}
use Rattle.weave_book.proofs.Kept.{same_mark}
use Rattle.std.specs.Int.{bit_at}
use Rattle.weave_book.specs.Books.{colour_mark}
use Rattle.weave_book.proofs.book.Book.put_raw.Goals as goal

pub loop-at-preserved : goal.loop-at-preserved
loop-at-preserved c =
    let long = c.put_word.ensures.len ∙ c.loop-at.invariant.long in
    record {
      same = (c.line_word.ensures.same.0 ∙ c.loop-at.invariant.same.0, c.line_word.ensures.same.1 ∙ c.loop-at.invariant.same.1);
      long = long;
      cells = λ k below within. ⊎_elim
          (λ (here : k / 64 ≡ c.loop-at.at).
          c.put_word.ensures.here k (subst (λ (n : ℕ). k < n) c.put_word.ensures.len within) here
          ∙ same_mark c.args.self.now c.loop-at.marks.weaves.now (get_or c.args.colours.now k 0) (get_or c.args.colours.now k 0) k c.args.pick c.loop-at.marks.pick
          (bit_at c.line_word.result (k % 64) == 1) c.loop-at.invariant.same.0 c.loop-at.invariant.same.1 refl
          (c.line_word.ensures.marks k here (let l = c.requires.cells in omega (arith, l, long, within))))
          (λ (away : k / 64 ≢ c.loop-at.at).
          c.put_word.ensures.others k away ∙ c.loop-at.invariant.cells k (omega arith) (subst (λ (n : ℕ). k < n) c.put_word.ensures.len within))
          (cases_eq (k / 64) c.loop-at.at);
    }

pub returns-clause-marks : goal.returns-clause-marks
returns-clause-marks c =
    line_is false c.loop-at.out (length c.args.out.now) (λ x. colour_mark c.args.self.now (get_or c.args.colours.now x 0) x c.args.pick) c.loop-at.invariant.long
    (λ k h. c.loop-at.invariant.cells k (let l = c.len.ensures in let w = c.div_ceil-at-end.ensures in omega (arith, l, w, c.loop-at-test.false)) (let l = c.loop-at.invariant.long in omega arith))
