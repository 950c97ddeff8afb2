use Rattle.std.proofs.Common.{◌<◌, length, sym, subst, ◌∙◌}
use Rattle.std.proofs.lemmas.Bool.{false≢true}
use Rattle.shed_publish.specs.Versions.{version_of}
use Rattle.shed_publish.proofs.Boards.{same_at}
use Rattle.shed_publish.proofs.reading.same_entries.Goals as goal

pub returns-then-not-same_entry-clause-differ : goal.returns-then-not-same_entry-clause-differ
returns-then-not-same_entry-clause-differ c _ same =
    let low : c.loop-k.k < length c.args.one.now = c.loop-k-test.true in
    false≢true (sym c.if-not-same_entry.true ∙ c.same_entry.ensures.1 (same_at version_of c.args.one.now c.args.other.now c.loop-k.k c.index-one-k.result c.index-other-k.result same low
    (subst (λ n. c.loop-k.k < n) c.loop-k.invariant.0 low) c.index-one-k.is c.index-other-k.is))
