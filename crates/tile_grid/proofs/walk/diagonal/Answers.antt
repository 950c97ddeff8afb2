use Rattle.tile_grid.proofs.Walked.{table_none, table_step}
use Rattle.tile_grid.proofs.walk.diagonal.Goals as goal

pub loop-kind-init : goal.loop-kind-init
loop-kind-init c = table_none c.args.count c.in_ok-near.near c.in_ok-near.ensures

pub loop-kind-preserved : goal.loop-kind-preserved
loop-kind-preserved c = table_step c.args.count c.loop-kind.kind c.loop-kind.near c.set.new.self c.loop-kind-test.true c.loop-kind.invariant c.set.ensures
