use Rattle.version_keep.proofs.Marked.{StartsTo}
use Rattle.version_keep.proofs.counts.starts_of.Given as goal

abbrev pub invariant-loop-shift : goal.invariant-loop-shift
invariant-loop-shift l = StartsTo l.session l.starts.items l.shift
