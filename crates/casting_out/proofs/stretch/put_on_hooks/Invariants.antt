use Rattle.std.proofs.Common.{length}
use Rattle.mill_base.proofs.lemmas.Pieces.{IsGatheredTo}
use Rattle.casting_out.specs.inner.Stretches.{stretch_hooks}
use Rattle.casting_out.proofs.stretch.put_on_hooks.Given as goal

abbrev pub invariant-loop-stretch : goal.invariant-loop-stretch
invariant-loop-stretch l = IsGatheredTo stretch_hooks l.stretches l.stretch-index l.column l.columns (length l.fn.hooks) l.hooks
