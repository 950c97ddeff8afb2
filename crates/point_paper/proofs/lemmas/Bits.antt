-- Papers of truth values, by their cells.
use Rattle.std.proofs.Common.{◌≡◌, ℕ, Bool, List, [], sym, ap, ◌∙◌, arith}
use Rattle.std.proofs.lemmas.List.{ext_get_or}
use Rattle.mill_base.proofs.lemmas.Rows.{same_cells}
use Rattle.point_paper.specs.Papers.{BitCells, HaveSameBits, IsBitPaper, bit_row}

abbrev with_rows : ℕ → List (List Bool) → BitCells
with_rows columns rows = record { columns = columns; rows = rows }

same_rows : (one other : BitCells) → IsBitPaper one → IsBitPaper other → HaveSameBits one other → one.rows ≡ other.rows
same_rows one other whole whole_too same =
    ext_get_or [] one.rows other.rows same.picks
    (λ pick p. same_cells (bit_row one pick) (bit_row other pick) (whole pick p ∙ same.columns ∙ sym (whole_too pick (omega (arith, same.picks, p))))
    (λ column c. same.cells column pick (let wide = whole pick p in omega (arith, wide, c)) p))

-- papers that have the same cells are one
pub same_bits : (one other : BitCells) → IsBitPaper one → IsBitPaper other → HaveSameBits one other → one ≡ other
same_bits one other whole whole_too same =
    ap (λ (n : ℕ). with_rows n one.rows) same.columns ∙ ap (with_rows other.columns) (same_rows one other whole whole_too same)
