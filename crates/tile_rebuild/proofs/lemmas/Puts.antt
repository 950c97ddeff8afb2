-- A tile's cells put into a whole paper.
use Rattle.std.proofs.Common.{◌≡◌, ◌+◌, ◌-◌, ◌<◌, ◌≤◌, ℕ, Bool, List, false, length, get_or, sym, ap, ◌∙◌, ⊎_elim, arith}
use Rattle.std.proofs.lemmas.Bool.{cases_lt}
use Rattle.mill_base.specs.Grids.{GridCells, grid_row}
use Rattle.mill_base.specs.Stretches.{IsLaid}
use Rattle.point_paper.specs.Papers.{BitCells, bit_cell, bit_row}
use Rattle.tile_rebuild.specs.declared.part.Part.{Part}
use Rattle.tile_rebuild.specs.Rebuilds.{IsPut}

-- rows of which stretches were set anew are a paper into which cells were put
pub put_rows : (part : Part) (cells : GridCells) (old new : BitCells) → new.columns ≡ old.columns → length new.rows ≡ length old.rows
    → ((b : ℕ) → b < part.height → IsLaid (bit_row old (part.pick + b)) part.column part.width (λ i. get_or (grid_row cells b) (0 + i) false) (bit_row new (part.pick + b)))
    → ((p : ℕ) → p < part.pick → bit_row new p ≡ bit_row old p) → ((p : ℕ) → part.pick + part.height ≤ p → bit_row new p ≡ bit_row old p)
    → IsPut part cells old new
put_rows part cells old new wide tall laid below past = record {
  wide = wide;
  tall = tall;
  here = λ c p has.
      let place : part.pick + (p - part.pick) ≡ p = let h = has.from_pick in omega arith in
      let across : part.column + (c - part.column) ≡ c = let h = has.from_column in omega arith in
      let high : p - part.pick < part.height = let h = has.from_pick in let k = has.to_pick in omega arith in
      let within : c - part.column < part.width = let h = has.from_column in let k = has.to_column in omega arith in
      let first : 0 + (c - part.column) ≡ c - part.column = omega arith in
      ap (λ n. bit_cell new c n) (sym place) ∙ ap (λ n. bit_cell new n (part.pick + (p - part.pick))) (sym across)
      ∙ (laid (p - part.pick) high).here (c - part.column) within ∙ ap (λ n. get_or (grid_row cells (p - part.pick)) n false) first;
  others = λ c p has. ⊎_elim
      (λ (low : p < part.pick). ap (λ (row : List Bool). get_or row c false) (below p low))
      (λ (from : part.pick ≤ p). ⊎_elim
      (λ (inside : p < part.pick + part.height).
      let place : part.pick + (p - part.pick) ≡ p = omega arith in
      let row = laid (p - part.pick) (omega arith) in
      ap (λ n. bit_cell new c n) (sym place)
      ∙ ⊎_elim
      (λ (left : c < part.column). row.below c left)
      (λ (right : part.column ≤ c). ⊎_elim
      (λ (in_part : c < part.column + part.width). absurd (has (record { from_column = right; to_column = in_part; from_pick = from; to_pick = inside })))
      (λ (out : part.column + part.width ≤ c). row.past c out)
      (cases_lt c (part.column + part.width)))
      (cases_lt c part.column)
      ∙ ap (λ n. bit_cell old c n) place)
      (λ (high : part.pick + part.height ≤ p). ap (λ (row : List Bool). get_or row c false) (past p high))
      (cases_lt p (part.pick + part.height)))
      (cases_lt p part.pick);
}
