use Rattle.std.proofs.Common.{◌≡◌, ◌/◌}
use Rattle.mill_base.specs.Lines.{line_by}
use Rattle.tile_grid.proofs.kinds.kinds_of_picks.Given as goal

abbrev pub invariant-loop-pick : goal.invariant-loop-pick
invariant-loop-pick l = l.kinds.items ≡ line_by l.pick (λ p. p / l.side)
