use Rattle.std.proofs.Common.{◌≡◌, ◌+◌, ◌<◌, ◌||◌, Bool, List, false, length, get_or, ap, ◌∙◌, arith}
use Rattle.mill_base.specs.Below.{any_below}
use Rattle.cloth_floats.specs.Windows.{long_of}
use Rattle.draft_model.specs.Cells.{is_weft_long}
use Rattle.tile_rebuild.proofs.lemmas.Rebuilt.{gathered_long}
use Rattle.tile_rebuild.proofs.long_cells.mark_pick.Goals as goal

pub returns-clause-long : goal.returns-clause-long
returns-clause-long c = λ a h.
    let design = c.args.design.now in
    let column = c.args.part.column + a in
    let hit = c.row.result.now in
    let place : 0 + a ≡ a = omega arith in
    let low : column < design.tie.columns = omega (arith, c.requires.fits.tie, c.requires.part.wide, h) in
    let marks = c.long_cells.ensures.all ∙ ap (λ (xs : List Bool). long_of xs design.weft_back design.weft_face) c.lay.ensures.line in
    c.or_range.ensures.here a h
    ∙ ap (λ v. v || get_or hit (0 + a) false)
    (ap (λ (xs : List Bool). get_or xs column false) c.gather.ensures.row ∙ gathered_long design c.args.row.now c.long_cells.new.out design.tie.columns column marks low)
    ∙ ap (λ n. any_below (is_weft_long design (λ x. get_or c.args.row.now x false) column) (length design.tie.ends) || get_or hit n false) place
    ∙ ap (λ (xs : List Bool). any_below (is_weft_long design (λ x. get_or c.args.row.now x false) column) (length design.tie.ends) || get_or xs a false) c.row.ensures.row
