use Rattle.std.proofs.Common.{◌∙◌}
use Rattle.tile_grid.specs.Tiles.{tiles}
use Rattle.tile_rebuild.specs.Tiles.{grid_of}
use Rattle.studio_core.proofs.Walked.{all_false}
use Rattle.studio_core.proofs.opening.opening_float.Goals as goal

pub returns-clause-none : goal.returns-clause-none
returns-clause-none c = λ none.
    all_false c.check_whole.new.flags (tiles (grid_of c.args.design.now)) (c.check_whole.ensures.len ∙ c.requires.flags) (c.kept_float.ensures.none none)
