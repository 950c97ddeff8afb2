use Rattle.std.proofs.Common.{◌≡◌, ◌≢◌, ◌+◌, ℕ, Bool, List, false, get_or, sym, ap, subst, ◌∙◌, ⊎_elim, arith}
use Rattle.std.proofs.lemmas.Bool.{cases_eq}
use Rattle.mill_base.specs.Grids.{grid_cell}
use Rattle.point_paper.specs.Papers.{bit_cell}
use Rattle.tile_rebuild.proofs.bit_lines.copy_columns.Goals as goal

pub loop-a-preserved : goal.loop-a-preserved
loop-a-preserved c = record {
  width = c.copy_column.ensures.width ∙ c.loop-a.invariant.width;
  height = c.copy_column.ensures.height ∙ c.loop-a.invariant.height;
  cells = λ a y h hy. ⊎_elim
      (λ (here : a ≡ c.loop-a.a).
      subst (λ (n : ℕ). grid_cell c.copy_column.new.out y n ≡ bit_cell c.args.bits.now (c.args.part.column + n) y) (sym here) (c.copy_column.ensures.here y hy))
      (λ (before : a ≢ c.loop-a.a).
      ap (λ (row : List Bool). get_or row y false) (c.copy_column.ensures.others a before) ∙ c.loop-a.invariant.cells a y (omega arith) hy)
      (cases_eq a c.loop-a.a);
}
