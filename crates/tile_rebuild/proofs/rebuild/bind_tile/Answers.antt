use Rattle.std.proofs.Common.{subst}
use Rattle.tile_rebuild.specs.declared.part.Part.{Part}
use Rattle.tile_rebuild.specs.inner.Cells.{AreBoundBy, raw_along, raw_up}
use Rattle.tile_rebuild.proofs.lemmas.Rebuilt.{bound_from}
use Rattle.tile_rebuild.proofs.rebuild.bind_tile.Goals as goal

pub returns-clause-bound : goal.returns-clause-bound
returns-clause-bound c =
    let design = c.args.design.now in
    let along = c.args.lines.now.picks.items in
    let up = c.args.lines.now.columns.items in
    bound_from design c.args.tile along up c.bind_picks.new.cells c.requires.fits
    (λ paper column pick is hc hp. c.two_lines_decide_a_cell.ensures.bound design paper column pick c.ends.ensures.tie c.requires.fits is hc hp)
    (subst (λ (p : Part). AreBoundBy design p p.height (raw_along design p along) (raw_up design p up) c.bind_picks.new.cells) c.part_of-part.ensures.part c.bind_picks.ensures.bound)
