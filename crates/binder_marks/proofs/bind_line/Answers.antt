use Rattle.std.proofs.Common.{◌≡◌, ◌≢◌, ◌/◌, ◌<◌, ℕ, false, length, ◌∙◌, ⊎_elim, sym, subst, arith}
use Rattle.mill_base.proofs.lemmas.Lines.{line_is}
use Rattle.std.proofs.lemmas.Bool.{cases_eq}
use Rattle.binder_marks.specs.Bound.{bound_at, bound_line}
use Rattle.binder_marks.proofs.Cells.{cell_of_words}
use Rattle.binder_marks.proofs.bind_line.Goals as goal

pub loop-at-preserved : goal.loop-at-preserved
loop-at-preserved c = record {
  long = c.put_word.ensures.len ∙ c.loop-at.invariant.long;
  bound = λ k below within. ⊎_elim
      (λ (here : k / 64 ≡ c.loop-at.at).
      c.put_word.ensures.here k (subst (λ (n : ℕ). k < n) (sym c.loop-at.invariant.long) within) here ∙ c.word_of_line-word.ensures k here
      ∙ cell_of_words c.words-raw_words.result.now c.words-long_words.result.now c.words-raise_words.result.now c.words-sink_words.result.now
      c.args.raw.now c.args.long.now c.args.raise.now c.args.sink.now
      c.words-raw_words.ensures c.words-long_words.ensures c.words-raise_words.ensures c.words-sink_words.ensures k)
      (λ (away : k / 64 ≢ c.loop-at.at). c.put_word.ensures.others k away ∙ c.loop-at.invariant.bound k (omega arith) within)
      (cases_eq (k / 64) c.loop-at.at);
}

pub returns-clause-line : goal.returns-clause-line
unfolding bound_line
returns-clause-line c =
    line_is false c.loop-at.out (length c.args.raw.now) (bound_at c.args.raw.now c.args.long.now c.args.raise.now c.args.sink.now) c.loop-at.invariant.long
    (λ k h. c.loop-at.invariant.bound k (let l = c.len.ensures in let w = c.div_ceil-words.ensures in omega (arith, l, w, c.loop-at-test.false)) h)
