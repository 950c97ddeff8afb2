use Rattle.std.proofs.Common.{◌∙◌, arith}
use Rattle.tile_grid.proofs.Counts.{count_of_row}
use Rattle.tile_grid.proofs.set_bits.count_before.Goals as goal

pub count_set-requires : goal.count_set-requires
count_set-requires c = let enough = c.words.ensures.room.enough in omega (arith, enough, c.requires)

pub returns : goal.returns
returns c = c.count_set.ensures ∙ count_of_row c.words.result.now c.args.row.now c.args.n c.words.ensures
