use Rattle.std.proofs.Common.{◌≡◌, ◌≢◌, ◌+◌, ℕ, Bool, List, false, get_or, sym, ap, subst, ◌∙◌, ⊎_elim, arith}
use Rattle.std.proofs.lemmas.Bool.{cases_eq}
use Rattle.mill_base.specs.Grids.{grid_cell}
use Rattle.mill_base.specs.Lines.{line_by}
use Rattle.cloth_floats.specs.Windows.{is_long}
use Rattle.tile_rebuild.proofs.lemmas.Rebuilt.{row_line}
use Rattle.tile_rebuild.proofs.long_cells.mark_rows.Goals as goal

pub loop-a-preserved : goal.loop-a-preserved
loop-a-preserved c =
    let design = c.args.design.now in
    let columns = c.args.columns.now in
    let pick = c.args.part.pick in
    record {
      room = c.mark_column.ensures.room;
      rows = λ a b ha hb. ⊎_elim
          (λ (here : a ≡ c.loop-a.a).
          subst (λ (n : ℕ). grid_cell c.mark_column.new.room.turned b n ≡ is_long (line_by design.size.picks (λ y. grid_cell columns y n)) design.warp_face design.warp_back (pick + b)) (sym here)
          (c.mark_column.ensures.here b hb
          ∙ ap (λ (xs : List Bool). is_long xs design.warp_face design.warp_back (pick + b)) (row_line columns c.row.result.now c.loop-a.a design.size.picks c.row.ensures.row (c.row.ensures.width ∙ c.requires.picks))))
          (λ (before : a ≢ c.loop-a.a).
          ap (λ (row : List Bool). get_or row b false) (c.mark_column.ensures.others a before) ∙ c.loop-a.invariant.rows a b (omega arith) hb)
          (cases_eq a c.loop-a.a);
    }
