use Rattle.std.specs.Prelude.{◌≡◌, ◌+◌}
use Rattle.mill_base.specs.Lines.{line_by}
use Rattle.open_desk.specs.Passes.{new_pass}
use Rattle.open_desk.proofs.pass.passes_of.Given as goal

abbrev pub invariant-loop-number : goal.invariant-loop-number
invariant-loop-number g l = (l.all.parts + l.number ≡ g.N.Shape.CALLERS) × (l.all.amount ≡ 0) × (l.passes.items ≡ line_by l.number new_pass)
