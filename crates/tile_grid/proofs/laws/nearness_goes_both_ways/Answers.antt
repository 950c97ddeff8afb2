use Rattle.std.proofs.Common.{refl}
use Rattle.tile_grid.proofs.lemmas.Near.{near_itself, near-symmetric}
use Rattle.tile_grid.proofs.laws.nearness_goes_both_ways.Goals as goal

pub returns-clause-itself : goal.returns-clause-itself
returns-clause-itself c grid t = near_itself grid t t refl

pub returns-clause-symmetric : goal.returns-clause-symmetric
returns-clause-symmetric c = near-symmetric
