use Rattle.std.proofs.Common.{List, ℕ, [], ◌∷◌, ◌++◌, sym, subst}
use Rattle.version_keep.specs.Doings.{AreCounts}
use Rattle.version_keep.proofs.Marked.{counts_more}
use Rattle.version_keep.proofs.counts.count_mark.Goals as goal

pub returns : goal.returns
returns c marks are =
    let counts = c.args.counts.now.items in
    subst (λ (l : List ℕ). AreCounts c.args.session.now (marks ++ c.args.mark.now ∷ []) l) (sym c.set_count.ensures)
    (counts_more c.args.session.now counts c.args.mark.now c.count_at-count.result c.requires.mark c.requires.fits c.requires.long c.count_at-count.ensures marks are)
