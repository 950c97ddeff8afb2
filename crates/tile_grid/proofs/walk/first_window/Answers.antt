use Rattle.std.proofs.Common.{length, arith}
use Rattle.mill_base.proofs.lemmas.Belows.{count_few}
use Rattle.tile_grid.specs.inner.Walks.{is_kind_at, window_place}
use Rattle.tile_grid.proofs.Walked.{window_there}
use Rattle.tile_grid.proofs.walk.first_window.Goals as goal

pub enter-requires-clause-room : goal.enter-requires-clause-room
enter-requires-clause-room c =
    let kind = c.kind_round.result in
    let low = c.requires.there (window_place (length c.args.kinds.now) c.args.limit 0 c.loop-d.d) (window_there c.args.kinds.now c.args.limit 0 c.loop-d.d c.requires.some) in
    let now = c.loop-d.invariant.counts kind (rw c.kind_round.ensures low) in
    let few = count_few (is_kind_at c.args.kinds.now c.args.limit 0 kind) c.loop-d.d in
    omega (arith, now, few, c.loop-d-test.true, c.requires.limit)
