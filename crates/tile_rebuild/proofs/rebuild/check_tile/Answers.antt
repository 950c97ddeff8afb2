use Rattle.std.proofs.Common.{◌<◌, ap, sym, subst, ◌∙◌}
use Rattle.mill_base.specs.Grids.{grid_cell}
use Rattle.tile_rebuild.specs.declared.part.Part.{Part}
use Rattle.tile_rebuild.proofs.lemmas.Rebuilt.{flag_from, some_long}
use Rattle.tile_rebuild.proofs.rebuild.check_tile.Goals as goal

pub returns-clause-flag : goal.returns-clause-flag
returns-clause-flag c = λ bits is lines.
    let design = c.args.design.now in
    let along = c.args.lines.now.picks in
    let up = c.args.lines.now.columns in
    c.any_long.ensures.any (λ a y. grid_cell up y a) c.mark_columns.ensures.hits
    ∙ ap (λ (p : Part). some_long design p along up) c.part_of-part.ensures.part
    ∙ flag_from design c.args.tile along up c.requires.fits
    (λ paper column pick hc hr hp. c.two_lines_decide_a_cell.ensures.long design paper column pick c.ends.ensures.tie (subst (λ n. column < n) (sym c.requires.fits.tie) hc) hr hp)
    bits is lines
