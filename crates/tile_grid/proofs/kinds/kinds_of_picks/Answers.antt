use Rattle.std.proofs.Common.{◌/◌, refl}
use Rattle.tile_grid.proofs.KindLines.{line_none, line_pushed}
use Rattle.tile_grid.proofs.kinds.kinds_of_picks.Goals as goal

pub loop-pick-init : goal.loop-pick-init
loop-pick-init c = line_none c.in_ok-kinds.kinds.items (λ p. p / c.args.side) c.in_ok-kinds.ensures.items

pub loop-pick-preserved : goal.loop-pick-preserved
loop-pick-preserved c =
    line_pushed c.loop-pick.kinds.items c.push.new.self.items c.loop-pick.pick (c.loop-pick.pick / c.args.side) (λ p. p / c.args.side) c.loop-pick.invariant c.in_ok-push.ensures.items refl
