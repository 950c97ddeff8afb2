use Rattle.std.proofs.Common.{◌≡◌, ◌<◌, ℕ, Bool, length, slice_index, sym, ap, subst, ◌∙◌}
use Rattle.std.specs.Prelude.{All}
use Rattle.mill_base.proofs.lemmas.Lines.{length-line_by}
use Rattle.weave_book.specs.Weaves.{mark}
use Rattle.binder_marks.specs.Bound.{bound_cell}
use Rattle.mill_base.specs.Lines.{line_by}
use Rattle.harness_ties.specs.Ties.{ends_of_column}
use Rattle.point_paper.specs.Papers.{bit_cell}
use Rattle.draft_model.specs.Cloths.{raw, raw_cell}
use Rattle.draft_model.specs.Drawdowns.{bound, cell_bound, column_long}
use Rattle.draft_model.specs.Cells.{long_cell_by}
use Rattle.draft_model.proofs.lemmas.LongCells.{column_long_by, long_cell_alike, cell_of_rows}
use Rattle.draft_model.proofs.laws.two_lines_decide_a_cell.Goals as goal

pub returns-clause-long : goal.returns-clause-long
returns-clause-long c design bits column pick tie there high low =
    let end = slice_index (ends_of_column design.tie.ends column) 0 in
    let tied = c.ends_of_a_column.ensures.tied design.tie.ends column 0 (tie.whole column there) in
    column_long_by design bits column pick end
    (λ x h. c.a_cell_is_long_along_its_pick_or_its_end.ensures design bits x pick h (subst (λ n. pick < n) (sym high) low))
    tied.0 tied.1 high

pub returns-clause-bound : goal.returns-clause-bound
unfolding bound
returns-clause-bound c design paper column pick tie fits is x y =
    let bits = raw design.book paper in
    let wide : column < paper.columns = subst (λ n. column < n) (sym is.columns) x in
    let tall : pick < paper.picks = subst (λ n. pick < n) (sym is.picks) y in
    let high : length bits.rows ≡ design.size.picks = length-line_by paper.picks (λ p. line_by paper.columns (λ k. raw_cell design.book paper k p)) ∙ is.picks in
    cell_of_rows paper.columns paper.picks (cell_bound design bits) column pick wide tall
    ∙ ap (λ b. bound_cell b (column_long design bits column pick) (mark design.raise column pick) (mark design.sink column pick))
    (cell_of_rows paper.columns paper.picks (raw_cell design.book paper) column pick wide tall)
    ∙ ap (λ b. bound_cell (raw_cell design.book paper column pick) b (mark design.raise column pick) (mark design.sink column pick))
    (returns-clause-long c design bits column pick tie (subst (λ n. column < n) (sym fits.tie) x) high y
    ∙ long_cell_alike design (λ k. bit_cell bits k pick) (λ k. raw_cell design.book paper k pick) (λ p. bit_cell bits column p) (λ p. raw_cell design.book paper column p) column pick
    (λ e h. cell_of_rows paper.columns paper.picks (raw_cell design.book paper) (slice_index design.tie.ends e) pick (subst (λ n. slice_index design.tie.ends e < n) (sym is.columns) (fits.tied e 0 h)) tall)
    (λ p h. cell_of_rows paper.columns paper.picks (raw_cell design.book paper) column p wide (subst (λ n. p < n) (sym is.picks) h)))
