use Rattle.mill_base.proofs.lemmas.Pieces.{IsLaidTo}
use Rattle.harness_ties.specs.inner.Stretches.{stretch_columns}
use Rattle.harness_ties.proofs.stretch.lay.Given as goal

abbrev pub invariant-loop-stretch : goal.invariant-loop-stretch
invariant-loop-stretch l = IsLaidTo stretch_columns l.stretches l.stretch-index l.end l.columns l.ends
