use Rattle.std.proofs.Common.{◌≡◌, ◌+◌}
use Rattle.shift_run.specs.inner.Looms.{Fills}
use Rattle.shift_run.proofs.looms.fill.Given as goal

abbrev pub invariant-rest : goal.invariant-rest
invariant-rest l = Fills l.shift l.core.version l.counter l.core.cards l.initial.loom l.loom
