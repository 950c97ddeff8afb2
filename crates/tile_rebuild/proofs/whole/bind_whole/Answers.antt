use Rattle.std.proofs.Common.{ap, ◌∙◌}
use Rattle.mill_base.specs.Grids.{GridCells}
use Rattle.tile_rebuild.specs.inner.Passes.{grid_bound}
use Rattle.tile_rebuild.proofs.lemmas.Passes.{bits_bound}
use Rattle.tile_rebuild.proofs.whole.bind_whole.Goals as goal

pub returns-clause-bound : goal.returns-clause-bound
returns-clause-bound g c =
    let design = c.args.design.now in
    let paper = c.args.paper.now in
    bits_bound design paper c.read_raw.new.room.raw c.bind_picks.new.bits c.requires.fits c.requires.paper
    (λ p column pick is hc hp. c.two_lines_decide_a_cell.ensures.bound design p column pick c.ends.ensures.tie c.requires.fits is hc hp)
    c.read_raw.ensures.raw c.bind_picks.ensures.bits c.size.ensures.whole
    (λ x p hx hp. c.bind_picks.ensures.bound x p hx hp ∙ ap (λ (g : GridCells). grid_bound design g x p) c.mark_columns.ensures.raw)
