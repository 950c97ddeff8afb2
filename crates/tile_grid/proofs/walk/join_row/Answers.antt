use Rattle.std.proofs.Common.{◌≡◌, length, ap, ◌∙◌, arith}
use Rattle.tile_grid.proofs.Walked.{joined_row}
use Rattle.tile_grid.proofs.walk.join_row.Goals as goal

pub returns-clause-here : goal.returns-clause-here
returns-clause-here c b low =
    let wide : length c.copy_from.new.self ≡ c.args.near.now.width = ap length c.copy_from.ensures ∙ c.row.ensures.width in
    joined_row c.args.near.now c.set_row.new.self c.args.kind c.len.result b c.row.result.now c.copy_from.new.self c.args.more.now c.or_range.new.self c.requires.kind
    (let long = c.len.ensures in omega arith) c.row.ensures.row c.copy_from.ensures c.or_range.ensures.here c.set_row.ensures
