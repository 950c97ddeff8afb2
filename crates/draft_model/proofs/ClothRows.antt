-- Rows that are filled cell by cell.
use Rattle.std.proofs.Common.{◌≡◌, ◌<◌, ℕ, pos, ◌%◌, Bool, false, List, [], length, get_or, take, drop, ◌++◌, sym, ap, subst, ◌∙◌, Some}
use Rattle.std.specs.Prelude.{All, slice_get, slice_index}
use Rattle.std.proofs.Math.Seq.{take-append_seam}
use Rattle.std.proofs.Math.Nat.{mod-eq_of_lt}
use Rattle.std.proofs.lemmas.Option.{get_or_from_slice_get}
use Rattle.weave_book.specs.declared.weaves.Weave.{Weave}
use Rattle.weave_book.specs.Books.{colour_mark}
use Rattle.harness_ties.specs.Ties.{tied}
use Rattle.point_paper.specs.Papers.{PaperCells, BitCells, cell_of, bit_row, pick_of}
use Rattle.mill_base.specs.Lines.{line_by}
use Rattle.mill_base.proofs.lemmas.Lines.{length-line_by, get_or-line_by, line_by_alike}
use Rattle.draft_model.specs.Cloths.{ClothCells, cloth, raw_cell}

-- what a buffer holds once a whole line was put into it
pub line_read : (len : ℕ) (old put read line : List ℕ) → read ≡ take len (put ++ drop (length put) old) → put ≡ line → length line ≡ len → read ≡ line
line_read len old put read line is same long =
    is ∙ ap (λ n. take n (put ++ drop (length put) old)) (sym long ∙ ap length (sym same)) ∙ take-append_seam put (drop (length put) old) ∙ same

-- the colours of a pick are in the book where its cells are
pub colours_in_book : (paper : PaperCells) (pick weaves : ℕ) (colours : List ℕ) → colours ≡ pick_of paper pick
    → ((column : ℕ) → column < paper.columns → cell_of paper column pick < weaves) → All (λ colour. colour < weaves) colours
colours_in_book paper pick weaves colours are each k d h =
    let below : k < paper.columns = subst (λ n. k < n) (ap length are ∙ length-line_by paper.columns (λ column. cell_of paper column pick)) h in
    subst (λ n. n < weaves) (sym (ap (λ xs. get_or xs k d) are ∙ get_or-line_by paper.columns (λ column. cell_of paper column pick) k d below)) (each k below)

-- the marks of the colours that were read are the raw cells
pub raw_read : (book : List Weave) (paper : PaperCells) (pick : ℕ) (colours : List ℕ) (row : List Bool) → colours ≡ pick_of paper pick
    → row ≡ line_by (length colours) (λ column. colour_mark book (slice_index colours column) column pick)
    → row ≡ line_by paper.columns (λ column. raw_cell book paper column pick)
raw_read book paper pick colours row are marked =
    let long : length colours ≡ paper.columns = ap length are ∙ length-line_by paper.columns (λ column. cell_of paper column pick) in
    marked ∙ ap (λ n. line_by n (λ column. colour_mark book (slice_index colours column) column pick)) long
    ∙ line_by_alike false paper.columns (λ column. colour_mark book (slice_index colours column) column pick) (λ column. raw_cell book paper column pick)
    (λ k h. ap (λ colour. colour_mark book colour k pick) (ap (λ xs. get_or xs k 0) are ∙ get_or-line_by paper.columns (λ column. cell_of paper column pick) k 0 h))

-- a bit paper and a cloth by their parts
pub bits_are : (bits : BitCells) (columns : ℕ) (rows : List (List Bool)) → bits.columns ≡ columns → bits.rows ≡ rows → bits ≡ record { columns = columns; rows = rows }
bits_are bits columns rows wide high =
    ap (λ (n : ℕ). record { columns = n; rows = bits.rows }) wide ∙ ap (λ (r : List (List Bool)). record { columns = columns; rows = r }) high

pub cloth_is : (cloth : ClothCells) (ends : ℕ) (rows : List (List Bool)) → cloth.ends ≡ ends → cloth.rows ≡ rows → cloth ≡ record { ends = ends; rows = rows }
cloth_is cloth ends rows wide high =
    ap (λ (n : ℕ). record { ends = n; rows = cloth.rows }) wide ∙ ap (λ (r : List (List Bool)). record { ends = ends; rows = r }) high

-- a pick of the cloth is the paper's pick at the columns of the ends
pub tied_row : (tie : List ℕ) (bits : BitCells) (pick : ℕ) (row : List Bool) → pick < length bits.rows → row ≡ bit_row bits pick
    → tied tie row ≡ line_by (length tie) (λ e. cloth tie bits (pos e) (pos pick))
tied_row tie bits pick row there is =
    line_by_alike false (length tie) (λ e. get_or row (slice_index tie e) false) (λ e. cloth tie bits (pos e) (pos pick))
    (λ e h. ap (λ xs. get_or xs (slice_index tie e) false) (is ∙ ap (λ p. get_or bits.rows p []) (sym (mod-eq_of_lt there)))
    ∙ ap (λ k. get_or (get_or bits.rows (pick % length bits.rows) []) (slice_index tie k) false) (sym (mod-eq_of_lt h)))
