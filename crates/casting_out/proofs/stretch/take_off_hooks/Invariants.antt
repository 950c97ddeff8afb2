use Rattle.mill_base.proofs.lemmas.Pieces.{IsLaidTo}
use Rattle.casting_out.specs.inner.Stretches.{stretch_hooks}
use Rattle.casting_out.proofs.stretch.take_off_hooks.Given as goal

abbrev pub invariant-loop-stretch : goal.invariant-loop-stretch
invariant-loop-stretch l = IsLaidTo stretch_hooks l.stretches l.stretch-index l.column l.hooks l.columns
