-- A whole paper, pick by pick.
use Rattle.std.proofs.Common.{◌≡◌, ◌≢◌, ◌+◌, ◌<◌, ◌≤◌, ℕ, Bool, List, [], false, true, length, get_or, set, sym, ap, subst, ◌∙◌, ⊎_elim, arith, get_or-set_same, get_or-set_other}
use Rattle.std.specs.Prelude.{All, slice_index}
use Rattle.std.proofs.lemmas.Bool.{both_ways, cases_eq, cases_lt}
use Rattle.mill_base.specs.Firsts.{IsFirstTrue}
use Rattle.mill_base.specs.Grids.{GridCells, grid_cell, grid_row, row_cell, transposed}
use Rattle.cloth_floats.specs.Windows.{is_long, long_of}
use Rattle.mill_base.specs.Lines.{line_by}
use Rattle.mill_base.proofs.lemmas.Lines.{length-line_by, get_or-line_by}
use Rattle.point_paper.specs.Papers.{PaperCells, BitCells, IsBitPaper, bit_cell, cell_of, pick_of}
use Rattle.point_paper.proofs.lemmas.Bits.{same_bits}
use Rattle.draft_model.specs.declared.design.Design.{Design}
use Rattle.draft_model.specs.Designs.{Fits, IsPaperOf, IsBitsOf}
use Rattle.draft_model.specs.Cloths.{raw, raw_cell}
use Rattle.draft_model.specs.Drawdowns.{bound, cell_bound, column_long}
use Rattle.draft_model.proofs.lemmas.LongCells.{long_cell_alike, bound_around}
use Rattle.tile_rebuild.specs.inner.Passes.{AreMarks, HasCells, grid_bound, grid_long}
use Rattle.tile_rebuild.proofs.lemmas.Rebuilt.{IsBoundByLines, IsLongByLines, get_or-long_of}

-- one more row of a paper has the formula's cells
pub one_more_row : (columns : ℕ) (old new : List (List Bool)) (n : ℕ) (cell : ℕ → ℕ → Bool) → ((x : ℕ) → x < columns → row_cell new x n ≡ cell x n)
    → ((k : ℕ) → k ≢ n → get_or new k [] ≡ get_or old k []) → ((x p : ℕ) → x < columns → p < n → row_cell old x p ≡ cell x p)
    → (x p : ℕ) → x < columns → p < n + 1 → row_cell new x p ≡ cell x p
one_more_row columns old new n cell here others before x p hx hp = ⊎_elim
    (λ (last : p ≡ n). subst (λ m. row_cell new x m ≡ cell x m) (sym last) (here x hx))
    (λ (low : p ≢ n). ap (λ (row : List Bool). get_or row x false) (others p low) ∙ before x p hx (omega arith))
    (cases_eq p n)

-- the colours of a pick, as they were read
pub length-read : (paper : PaperCells) (pick : ℕ) (colours : List ℕ) → colours ≡ pick_of paper pick → length colours ≡ paper.columns
length-read paper pick colours are = ap length are ∙ length-line_by paper.columns (λ column. cell_of paper column pick)

pub colour_read : (paper : PaperCells) (pick c : ℕ) (colours : List ℕ) → colours ≡ pick_of paper pick → c < paper.columns → slice_index colours c ≡ cell_of paper c pick
colour_read paper pick c colours are h = ap (λ xs. get_or xs c 0) are ∙ get_or-line_by paper.columns (λ column. cell_of paper column pick) c 0 h

pub colours_in_book : (paper : PaperCells) (pick weaves : ℕ) (colours : List ℕ) → colours ≡ pick_of paper pick
    → ((column : ℕ) → column < paper.columns → cell_of paper column pick < weaves) → All (λ colour. colour < weaves) colours
colours_in_book paper pick weaves colours are each k d h =
    let below : k < paper.columns = subst (λ n. k < n) (length-read paper pick colours are) h in
    subst (λ n. n < weaves) (sym (ap (λ xs. get_or xs k d) are ∙ get_or-line_by paper.columns (λ column. cell_of paper column pick) k d below)) (each k below)

-- the bound paper has the design's size
bound_sized : (design : Design) (paper : PaperCells) → IsPaperOf design paper → IsBitsOf design (bound design paper)
unfolding bound
bound_sized design paper is = record {
  columns = is.columns;
  picks = length-line_by paper.picks (λ p. line_by paper.columns (λ c. cell_bound design (raw design.book paper) c p)) ∙ is.picks;
}

bound_rows : (design : Design) (paper : PaperCells) → IsPaperOf design paper → IsBitPaper (bound design paper)
unfolding bound
bound_rows design paper is p h =
    let row = λ (y : ℕ). line_by paper.columns (λ c. cell_bound design (raw design.book paper) c y) in
    let low : p < paper.picks = subst (λ n. p < n) (length-line_by paper.picks row) h in
    ap length (get_or-line_by paper.picks row p [] low) ∙ length-line_by paper.columns (λ c. cell_bound design (raw design.book paper) c p)

-- where the grid has the raw cells, its bound cells are the bound paper
pub bits_bound : (design : Design) (paper : PaperCells) (grid : GridCells) (bits : BitCells) → Fits design → IsPaperOf design paper → IsBoundByLines design
    → HasCells design design.size.picks (raw_cell design.book paper) grid → IsBitsOf design bits → IsBitPaper bits
    → ((c p : ℕ) → c < design.size.columns → p < design.size.picks → bit_cell bits c p ≡ grid_bound design grid c p) → bits ≡ bound design paper
bits_bound design paper grid bits fits is law reads of whole each =
    let sized = bound_sized design paper is in
    same_bits bits (bound design paper) whole (bound_rows design paper is)
    (record {
      columns = of.columns ∙ sym sized.columns;
      picks = of.picks ∙ sym sized.picks;
      cells = λ c p hc hp.
          let low : c < design.size.columns = subst (λ n. c < n) of.columns hc in
          let here : p < design.size.picks = subst (λ n. p < n) of.picks hp in
          let row = λ (x : ℕ). raw_cell design.book paper x p in
          let column = λ (y : ℕ). raw_cell design.book paper c y in
          each c p low here
          ∙ bound_around design (λ x. grid_cell grid x p) row (λ y. grid_cell grid c y) column c p
          (long_cell_alike design (λ x. grid_cell grid x p) row (λ y. grid_cell grid c y) column c p
          (λ x h. reads (slice_index design.tie.ends x) p (fits.tied x 0 h) here) (λ y h. reads c y low h))
          (reads c p low here)
          ∙ sym (law paper c p is low here);
    })

-- where the grid has the cells of a bit paper, its long cells are those of the columns
pub grid_long_is : (design : Design) (bits : BitCells) (grid : GridCells) (c p : ℕ) → Fits design → IsBitsOf design bits → IsLongByLines design
    → HasCells design design.size.picks (bit_cell bits) grid → c < design.size.columns → p < design.size.picks → grid_long design grid c p ≡ column_long design bits c p
grid_long_is design bits grid c p fits is law reads hc hp =
    long_cell_alike design (λ x. grid_cell grid x p) (λ x. bit_cell bits x p) (λ y. grid_cell grid c y) (λ y. bit_cell bits c y) c p
    (λ x h. reads (slice_index design.tie.ends x) p (fits.tied x 0 h) hp) (λ y h. reads c y hc h)
    ∙ sym (law bits c p hc is.picks hp)

-- what is known of the columns of a pick, told of equal grids
pub marks_moved : (design : Design) (raw raw' long long' : GridCells) (marks : List Bool) (pick : ℕ) → AreMarks design raw long marks pick → raw ≡ raw' → long ≡ long' → AreMarks design raw' long' marks pick
marks_moved design raw raw' long long' marks pick are e f =
    subst (λ (g : GridCells). AreMarks design g long' marks pick) e (subst (λ (g : GridCells). AreMarks design raw g marks pick) f are)

-- one more of the rows that are asked for
pub some_rows_more : (old mid : List (List Bool)) (which line : List Bool) (from k : ℕ) (marked : List Bool → List Bool) → IsFirstTrue which from k → k < length mid
    → line ≡ marked (get_or mid k []) → ((j : ℕ) → from ≤ j → get_or mid j [] ≡ get_or old j [])
    → ((j : ℕ) → j < from → get_or which j false ≡ true → get_or mid j [] ≡ marked (get_or old j []))
    → (j : ℕ) → j < k + 1 → get_or which j false ≡ true → get_or (set mid k line) j [] ≡ marked (get_or old j [])
some_rows_more old mid which line from k marked first room is left done j low on = ⊎_elim
    (λ (last : j ≡ k).
    ap (λ n. get_or (set mid k line) n []) last ∙ get_or-set_same mid k line [] room ∙ is ∙ ap marked (left k first.ahead) ∙ ap (λ n. marked (get_or old n [])) (sym last))
    (λ (other : j ≢ k). get_or-set_other mid k j line [] other ∙ ⊎_elim
    (λ (early : j < from). done j early on)
    (λ (late : from ≤ j). absurd (both_ways (get_or which j false) (first.before j late (omega arith)) on))
    (cases_lt j from))
    (cases_eq j k)

-- a row of a turned grid, once it was marked, says where its column is long
pub row_long : (design : Design) (raw turned marked : GridCells) (x p : ℕ) → raw.width ≡ design.size.columns → length raw.rows ≡ design.size.picks → turned ≡ transposed raw
    → grid_row marked x ≡ long_of (grid_row turned x) design.warp_face design.warp_back → x < design.size.columns → p < design.size.picks
    → grid_cell marked p x ≡ is_long (line_by design.size.picks (λ y. grid_cell raw x y)) design.warp_face design.warp_back p
row_long design raw turned marked x p raw_wide raw_high is row hx hp =
    let cells = line_by design.size.picks (λ y. grid_cell raw x y) in
    let wide : x < raw.width = omega (arith, hx, raw_wide) in
    let line : grid_row turned x ≡ cells =
    ap (λ (g : GridCells). grid_row g x) is
    ∙ get_or-line_by raw.width (λ column. line_by (length raw.rows) (grid_cell raw column)) x [] wide ∙ ap (λ n. line_by n (λ y. grid_cell raw x y)) raw_high in
    ap (λ (xs : List Bool). get_or xs p false) row
    ∙ ap (λ (xs : List Bool). get_or (long_of xs design.warp_face design.warp_back) p false) line
    ∙ get_or-long_of cells design.warp_face design.warp_back p (subst (λ n. p < n) (sym (length-line_by design.size.picks (λ y. grid_cell raw x y))) hp)
