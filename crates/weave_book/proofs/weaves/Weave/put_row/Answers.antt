use Rattle.std.proofs.Common.{◌≡◌, ◌≢◌, ◌/◌, ◌%◌, ◌<◌, ℕ, false, length, ap, subst, ◌∙◌, ⊎_elim, arith}
use Rattle.std.proofs.lemmas.Bool.{cases_eq}
use Rattle.mill_base.proofs.lemmas.Lines.{line_is}
use Rattle.weave_book.specs.Weaves.{mark}
use Rattle.weave_book.proofs.weaves.Weave.put_row.Goals as goal

pub loop-at-preserved : goal.loop-at-preserved
loop-at-preserved c = record {
  word = λ j h. c.next_marks-word.ensures j h ∙ ap (λ x. mark c.args.self.now x c.args.pick) (omega arith);
  long = c.put_word.ensures.len ∙ c.loop-at.invariant.long;
  marks = λ k below within. ⊎_elim
      (λ (here : k / 64 ≡ c.loop-at.at).
      c.put_word.ensures.here k (subst (λ (n : ℕ). k < n) c.put_word.ensures.len within) here ∙ c.next_marks-word.ensures (k % 64) (omega arith)
      ∙ ap (λ x. mark c.args.self.now x c.args.pick) (omega arith))
      (λ (away : k / 64 ≢ c.loop-at.at).
      c.put_word.ensures.others k away ∙ c.loop-at.invariant.marks k (omega arith) (subst (λ (n : ℕ). k < n) c.put_word.ensures.len within))
      (cases_eq (k / 64) c.loop-at.at);
}

pub returns-clause-marks : goal.returns-clause-marks
returns-clause-marks c =
    line_is false c.loop-at.out (length c.args.out.now) (λ x. mark c.args.self.now x c.args.pick) c.loop-at.invariant.long
    (λ k h. c.loop-at.invariant.marks k (let l = c.len.ensures in let w = c.div_ceil-at-end.ensures in omega (arith, l, w, c.loop-at-test.false)) (let l = c.loop-at.invariant.long in omega arith))
