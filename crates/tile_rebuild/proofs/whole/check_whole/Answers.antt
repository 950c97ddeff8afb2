use Rattle.std.proofs.Common.{◌<◌, ap, sym, ◌∙◌, subst}
use Rattle.mill_base.specs.Grids.{GridCells, grid_cell}
use Rattle.tile_rebuild.proofs.lemmas.Flags.{flags_are}
use Rattle.tile_rebuild.proofs.lemmas.Passes.{grid_long_is}
use Rattle.tile_rebuild.proofs.whole.check_whole.Goals as goal

pub returns-clause-flags : goal.returns-clause-flags
returns-clause-flags c = λ tile h.
    let design = c.args.design.now in
    let bits = c.args.bits.now in
    let raw = c.mark_columns.new.room.raw in
    c.flag_picks.ensures.flags tile h
    ∙ flags_are design bits raw tile
    (λ x p hx hp. grid_long_is design bits raw x p c.requires.fits c.requires.bits
    (λ paper column pick hc hr low. c.two_lines_decide_a_cell.ensures.long design paper column pick c.ends.ensures.tie (subst (λ n. column < n) (sym c.requires.fits.tie) hc) hr low)
    (λ k y hk hy. ap (λ (g : GridCells). grid_cell g k y) c.mark_columns.ensures.raw ∙ c.copy_bits.ensures.raw k y hk hy) hx hp)
