use Rattle.std.proofs.Common.{◌≡◌, ◌<◌, ◌&&◌, ◌||◌, ℕ, List, length, sym, ap, ◌∙◌, subst}
use Rattle.std.specs.List.{list_any}
use Rattle.mill_base.proofs.lemmas.Lines.{length-line_by}
use Rattle.cloth_floats.specs.Floats.{runs_of, is_over, runs_through}
use Rattle.cloth_floats.specs.Windows.{is_long}
use Rattle.point_paper.specs.Papers.{bit_cell}
use Rattle.std.specs.Prelude.{slice_index}
use Rattle.draft_model.specs.Floats.{weft_line, warp_line}
use Rattle.draft_model.proofs.laws.a_cell_is_long_where_a_float_over_its_limit_runs.Goals as goal

pub returns : goal.returns
returns c design bits e p he hp =
    let weft = weft_line design.tie.ends bits p in
    let warp = warp_line design.tie.ends bits e in
    let on_weft : e < length weft = subst (λ n. e < n) (sym (length-line_by (length design.tie.ends) (λ x. bit_cell bits (slice_index design.tie.ends x) p))) he in
    let on_warp : p < length warp = subst (λ n. p < n) (sym (length-line_by (length bits.rows) (λ y. bit_cell bits (slice_index design.tie.ends e) y))) hp in
    c.a_cell_is_long_along_its_pick_or_its_end.ensures design bits e p he hp
    ∙ ap (λ b. b || is_long warp design.warp_face design.warp_back p)
    (c.a_position_is_long_where_a_float_over_its_limit_runs.ensures weft design.weft_back design.weft_face e on_weft)
    ∙ ap (λ b. list_any (λ run. is_over design.weft_back design.weft_face run && runs_through weft run e) (runs_of weft) || b)
    (c.a_position_is_long_where_a_float_over_its_limit_runs.ensures warp design.warp_face design.warp_back p on_warp)
