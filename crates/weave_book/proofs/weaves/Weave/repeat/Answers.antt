use Rattle.std.proofs.Common.{ℕ, sym, subst}
use Rattle.weave_book.specs.Weaves.{mark}
use Rattle.weave_book.specs.inner.Parts.{Repeats}
use Rattle.weave_book.proofs.Parts.{marks_repeat}
use Rattle.weave_book.proofs.weaves.Weave.repeat.Goals as goal

pub returns-else-columns-gt64-clause-again : goal.returns-else-columns-gt64-clause-again
returns-else-columns-gt64-clause-again c p =
    subst (λ (n : ℕ). Repeats (λ x. mark c.args.self.now x p) n) (sym c.columns-columns.ensures) (marks_repeat c.args.self.now p)
