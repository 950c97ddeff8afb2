use Rattle.std.proofs.Common.{length}
use Rattle.mill_base.proofs.lemmas.Pieces.{IsGatheredTo}
use Rattle.harness_ties.specs.inner.Stretches.{stretch_columns}
use Rattle.harness_ties.proofs.stretch.gather.Given as goal

abbrev pub invariant-loop-stretch : goal.invariant-loop-stretch
invariant-loop-stretch l = IsGatheredTo stretch_columns l.stretches l.stretch-index l.end l.ends (length l.fn.columns) l.columns
