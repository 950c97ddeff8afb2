use Rattle.std.proofs.Common.{◌+◌, ◌*◌, length, ◌∙◌, arith, rules}
use Rattle.tile_grid.specs.inner.Walks.{window_place}
use Rattle.tile_grid.proofs.Walked.{count_at_few, first_is_counted, slid, table_more, window_there}
use Rattle.tile_grid.proofs.walk.go_round.Goals as goal

pub enter-requires-clause-room : goal.enter-requires-clause-room
enter-requires-clause-room c =
    let kinds = c.args.kinds.now in
    let low = c.requires.there (window_place (length kinds) c.args.limit c.loop-x.x (2 * c.args.limit + 1)) (window_there kinds c.args.limit c.loop-x.x (2 * c.args.limit + 1) c.requires.some) in
    let now = c.loop-x.invariant.counts c.kind_round.result (rw c.kind_round.ensures low) in
    omega (arith, now, count_at_few kinds c.args.limit c.loop-x.x c.kind_round.result, c.requires.limit)

pub leave-requires-clause-some : goal.leave-requires-clause-some
leave-requires-clause-some c =
    let kinds = c.args.kinds.now in
    let into_low = c.requires.there (window_place (length kinds) c.args.limit c.loop-x.x (2 * c.args.limit + 1)) (window_there kinds c.args.limit c.loop-x.x (2 * c.args.limit + 1) c.requires.some) in
    let out_low = c.requires.there (window_place (length kinds) c.args.limit c.loop-x.x 0) (window_there kinds c.args.limit c.loop-x.x 0 c.requires.some) in
    first_is_counted kinds c.loop-x.window c.enter.new.self c.args.limit c.loop-x.x (length c.args.window.now) c.kind_round.result c.kind_round-in-loop-x.result
    c.loop-x.invariant.len (rw c.kind_round.ensures into_low) (rw c.kind_round-in-loop-x.ensures out_low) c.kind_round-in-loop-x.ensures c.loop-x.invariant.counts c.enter.ensures

pub loop-x-preserved : goal.loop-x-preserved
loop-x-preserved c =
    let kinds = c.args.kinds.now in
    let n = length c.args.window.now in
    let x = c.loop-x.x in
    let into_low = c.requires.there (window_place (length kinds) c.args.limit x (2 * c.args.limit + 1)) (window_there kinds c.args.limit x (2 * c.args.limit + 1) c.requires.some) in
    let out_low = c.requires.there (window_place (length kinds) c.args.limit x 0) (window_there kinds c.args.limit x 0 c.requires.some) in
    record {
      len = search rules;
      row = c.join_row.ensures.row ∙ c.loop-x.invariant.table.width;
      counts = slid kinds c.loop-x.window c.enter.new.self c.leave.new.self c.args.limit x n c.kind_round.result c.kind_round-in-loop-x.result
          c.loop-x.invariant.len c.requires.some (rw c.kind_round.ensures into_low) (rw c.kind_round-in-loop-x.ensures out_low) c.kind_round.ensures c.kind_round-in-loop-x.ensures
          c.loop-x.invariant.counts c.enter.ensures c.leave.ensures;
      table = table_more kinds c.loop-x.window c.args.limit x n c.kinds.result.now c.loop-x.near c.join_row.new.near c.loop-x.invariant.table
          (c.requires.there x c.loop-x-test.true) c.loop-x.invariant.counts (λ b h. c.kinds.ensures.kinds b (let long = c.loop-x.invariant.len in omega arith))
          (c.join_row.ensures.width ∙ c.loop-x.invariant.table.width) (c.join_row.ensures.height ∙ c.loop-x.invariant.table.height) (c.join_row.ensures.long ∙ c.loop-x.invariant.table.width)
          (λ b h. c.join_row.ensures.here b (let wide = c.loop-x.invariant.table.width in omega arith)) c.join_row.ensures.others;
    }
