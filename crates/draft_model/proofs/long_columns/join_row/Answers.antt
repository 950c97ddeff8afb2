use Rattle.std.proofs.Common.{◌≡◌, ◌+◌, ◌<◌, ◌==◌, ◌&&◌, ◌||◌, [], false, length, get_or, slice_index, ap, sym, subst, ◌∙◌, arith}
use Rattle.std.proofs.Math.Bool.{and-false}
use Rattle.std.proofs.lemmas.List.{get_or-set_same}
use Rattle.mill_base.specs.Grids.{GridCells, grid_cell}
use Rattle.mill_base.specs.Below.{any_below}
use Rattle.mill_base.proofs.lemmas.Belows.{any_none}
use Rattle.mill_base.proofs.lemmas.Lines.{get_or-line_by}
use Rattle.harness_ties.specs.Ties.{gathered}
use Rattle.draft_model.proofs.long_columns.join_row.Goals as goal

pub returns-then-not-any-clause-here : goal.returns-then-not-any-clause-here
returns-then-not-any-clause-here c i h =
    let tie = c.args.tie.now in
    let ends = c.args.ends.now in
    sym (ap (λ b. b || grid_cell c.args.long.now i c.args.pick)
    (get_or-line_by tie.columns (λ column. any_below (λ e. (slice_index tie.ends e == column) && get_or ends e false) (length tie.ends)) i false h
    ∙ any_none (λ e. (slice_index tie.ends e == i) && get_or ends e false) (length tie.ends)
    (λ e below. ap (λ b. (slice_index tie.ends e == i) && b) (c.any.ensures.none c.if-not-any.true e) ∙ and-false (slice_index tie.ends e == i))))

pub returns-clause-here : goal.returns-clause-here
returns-clause-here c i h =
    let pick = c.args.pick in
    let place : 0 + i ≡ i = omega arith in
    ap (λ (g : GridCells). grid_cell g i pick) c.set_row.ensures
    ∙ ap (λ xs. get_or xs i false) (get_or-set_same c.args.long.now.rows pick c.or_range.new.self [] c.requires.pick)
    ∙ ap (λ n. get_or c.or_range.new.self n false) (sym place)
    ∙ c.or_range.ensures.here i (subst (λ n. i < n) (sym c.columns.ensures) h)
    ∙ ap (λ n. get_or c.gather.new.columns n false || get_or c.row.result.now n false) place
    ∙ ap (λ xs. get_or xs i false || get_or c.row.result.now i false) c.gather.ensures.row
    ∙ ap (λ xs. get_or (gathered c.args.tie.now.columns c.args.tie.now.ends c.args.ends.now) i false || get_or xs i false) c.row.ensures.row
