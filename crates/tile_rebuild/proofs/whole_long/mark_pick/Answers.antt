use Rattle.std.proofs.Common.{◌≡◌, ◌+◌, ◌<◌, ◌||◌, Bool, List, false, get_or, sym, ap, ◌∙◌, arith}
use Rattle.mill_base.specs.Grids.{grid_cell, grid_row}
use Rattle.harness_ties.specs.Ties.{tied}
use Rattle.cloth_floats.specs.Windows.{long_of}
use Rattle.tile_rebuild.proofs.lemmas.Rebuilt.{gathered_long, long_joined, none_gathered}
use Rattle.tile_rebuild.proofs.whole_long.mark_pick.Goals as goal

pub returns-then-any-clause-columns : goal.returns-then-any-clause-columns
returns-then-any-clause-columns c = λ x h end.
    let design = c.args.design.now in
    let raw = c.args.room.now.raw in
    let pick = c.args.pick in
    let before = c.row-then-any.result.now in
    let place : 0 + x ≡ x = omega arith in
    let low : x < design.tie.columns = omega (arith, c.requires.fits.tie, h) in
    let marks = c.long_cells.ensures.all ∙ ap (λ (xs : List Bool). long_of xs design.weft_back design.weft_face) (c.lay.ensures.line ∙ ap (tied design.tie.ends) c.row.ensures.row) in
    long_joined design (λ k. grid_cell raw k pick) (λ y. grid_cell raw x y) x pick (get_or c.or_range.new.self x false) (get_or before x false)
    (ap (λ n. get_or c.or_range.new.self n false) (sym place) ∙ c.or_range.ensures.here x h ∙ ap (λ n. get_or c.gather.new.columns n false || get_or before n false) place
    ∙ ap (λ v. v || get_or before x false)
    (ap (λ (xs : List Bool). get_or xs x false) c.gather.ensures.row ∙ gathered_long design (grid_row raw pick) c.long_cells.new.out design.tie.columns x marks low))
    (ap (λ (xs : List Bool). get_or xs x false) c.row-then-any.ensures.row ∙ end)

pub returns-clause-columns : goal.returns-clause-columns
returns-clause-columns c = λ x h end.
    let design = c.args.design.now in
    let raw = c.args.room.now.raw in
    let pick = c.args.pick in
    let before = c.row-2.result.now in
    let low : x < design.tie.columns = omega (arith, c.requires.fits.tie, h) in
    let marks = c.long_cells.ensures.all ∙ ap (λ (xs : List Bool). long_of xs design.weft_back design.weft_face) (c.lay.ensures.line ∙ ap (tied design.tie.ends) c.row.ensures.row) in
    let none = none_gathered design (grid_row raw pick) c.long_cells.new.out design.tie.columns x marks low (c.any.ensures.none c.if-any.false) in
    long_joined design (λ k. grid_cell raw k pick) (λ y. grid_cell raw x y) x pick (get_or c.copy_from.new.self x false) (get_or before x false)
    (ap (λ (xs : List Bool). get_or xs x false) c.copy_from.ensures ∙ ap (λ b. b || get_or before x false) (sym none))
    (ap (λ (xs : List Bool). get_or xs x false) c.row-2.ensures.row ∙ end)
