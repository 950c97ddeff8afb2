-- From the lines that cross a tile to its cells.
use Rattle.std.proofs.Common.{◌≡◌, ◌+◌, ◌-◌, ◌*◌, ◌/◌, ◌<◌, ◌&&◌, ◌||◌, ℕ, min, Bool, false, List, length, get_or, sym, ap, subst, ◌∙◌, arith}
use Rattle.std.specs.Prelude.{slice_index, ◌==◌}
use Rattle.std.proofs.lemmas.Bool.{and_parts, both_ways, false_from_ne_true}
use Rattle.std.proofs.lemmas.Nat.{div-mul-add, mod_below, div-add-mod'}
use Rattle.mill_base.specs.Below.{any_below}
use Rattle.mill_base.specs.Grids.{GridCells, grid_cell, grid_row}
use Rattle.mill_base.specs.Lines.{line_by}
use Rattle.mill_base.proofs.lemmas.Belows.{any_here, any_witness, any_alike, true_together}
use Rattle.mill_base.proofs.lemmas.Lines.{length-line_by, get_or-line_by, line_is}
use Rattle.weave_book.specs.Books.{colour_mark}
use Rattle.harness_ties.specs.Ties.{tied, gathered}
use Rattle.cloth_floats.specs.Windows.{is_long, long_of}
use Rattle.point_paper.specs.Papers.{PaperCells, BitCells, bit_cell}
use Rattle.draft_model.specs.declared.design.Design.{Design}
use Rattle.draft_model.specs.Designs.{Fits, IsPaperOf, IsBitsOf}
use Rattle.draft_model.specs.Cells.{is_weft_long, long_cell_by, bound_by}
use Rattle.draft_model.specs.Cloths.{raw_cell}
use Rattle.draft_model.specs.Drawdowns.{bound, column_long}
use Rattle.draft_model.proofs.lemmas.LongCells.{long_cell_alike, bound_around}
use Rattle.tile_grid.specs.Tiles.{GridValue, IsTileGrid, tile_of, tile_column, tile_row}
use Rattle.tile_grid.specs.Near.{any_cell}
use Rattle.tile_grid.proofs.lemmas.Tiles.{side_some, column_of_cell, row_of_cell, cell_of_tile}
use Rattle.tile_grid.proofs.lemmas.Near.{any_cell_here, any_cell_witness}
use Rattle.tile_rebuild.specs.declared.part.Part.{Part}
use Rattle.tile_rebuild.specs.Tiles.{grid_of, part_at, has_long}
use Rattle.tile_rebuild.specs.Lines.{item_of, AreColoursOf, AreBitsOf}
use Rattle.tile_rebuild.specs.Rebuilds.{AreBound, IsFlag}
use Rattle.tile_rebuild.specs.inner.Cells.{raw_along, raw_up, is_long_in, AreBoundBy}
use Rattle.tile_rebuild.proofs.lemmas.Designs.{grid_there}

-- ---- lines

-- a row of a grid by its cells
pub row_line : (grid : GridCells) (row : List Bool) (a n : ℕ) → row ≡ grid_row grid a → length row ≡ n → row ≡ line_by n (λ y. grid_cell grid y a)
row_line grid row a n is long = line_is false row n (λ y. grid_cell grid y a) long (λ k h. ap (λ (xs : List Bool). get_or xs k false) is)

pub get_or-long_of : (line : List Bool) (lifted unlifted k : ℕ) → k < length line → get_or (long_of line lifted unlifted) k false ≡ is_long line lifted unlifted k
get_or-long_of line lifted unlifted k h = get_or-line_by (length line) (is_long line lifted unlifted) k false h

-- the columns of which some end is long along a pick
pub gathered_long : (design : Design) (row marks : List Bool) (columns column : ℕ) → marks ≡ long_of (tied design.tie.ends row) design.weft_back design.weft_face → column < columns
    → get_or (gathered columns design.tie.ends marks) column false ≡ any_below (is_weft_long design (λ x. get_or row x false) column) (length design.tie.ends)
gathered_long design row marks columns column is low =
    let ends = design.tie.ends in
    let line = tied ends row in
    get_or-line_by columns (λ c. any_below (λ e. slice_index ends e == c && get_or marks e false) (length ends)) column false low
    ∙ any_alike (λ e. slice_index ends e == column && get_or marks e false) (is_weft_long design (λ x. get_or row x false) column) (length ends)
    (λ e below. ap (λ b. slice_index ends e == column && b)
    (ap (λ (xs : List Bool). get_or xs e false) is
    ∙ get_or-long_of line design.weft_back design.weft_face e (subst (λ n. e < n) (sym (length-line_by (length ends) (λ x. get_or row (slice_index ends x) false))) below)))

-- no end is long along a pick
pub none_gathered : (design : Design) (row marks : List Bool) (columns column : ℕ) → marks ≡ long_of (tied design.tie.ends row) design.weft_back design.weft_face → column < columns
    → ((e : ℕ) → get_or marks e false ≡ false) → any_below (is_weft_long design (λ x. get_or row x false) column) (length design.tie.ends) ≡ false
none_gathered design row marks columns column is low none =
    let ends = design.tie.ends in
    let long = λ (e : ℕ). slice_index ends e == column && get_or marks e false in
    sym (gathered_long design row marks columns column is low)
    ∙ get_or-line_by columns (λ c. any_below (λ e. slice_index ends e == c && get_or marks e false) (length ends)) column false low
    ∙ false_from_ne_true (any_below long (length ends))
    (λ some.
    let w = any_witness long (length ends) some in
    both_ways (get_or marks w.0 false) (none w.0) (and_parts (slice_index ends w.0 == column) (get_or marks w.0 false) w.2).1)

-- a cell that is long along its pick or along its column
pub long_joined : (design : Design) (row up : ℕ → Bool) (column pick : ℕ) (found hit : Bool)
    → found ≡ (any_below (is_weft_long design row column) (length design.tie.ends) || hit)
    → hit ≡ is_long (line_by design.size.picks up) design.warp_face design.warp_back pick
    → found ≡ long_cell_by design row up column pick
unfolding long_cell_by
long_joined design row up column pick found hit is also = is ∙ ap (λ b. any_below (is_weft_long design row column) (length design.tie.ends) || b) also

-- ---- places

-- a cell of a tile by its place in the tile
pub record IsPlace (part : Part) (c p : ℕ) : Type 0 where
  pub column : part.column + (c - part.column) ≡ c
  pub pick : part.pick + (p - part.pick) ≡ p
  pub within : c - part.column < part.width
  pub high : p - part.pick < part.height

place_back : (side i n c : ℕ) → 0 < side → c < n → c / side ≡ i → (i * side + (c - i * side) ≡ c) × (c - i * side < min side (n - i * side))
place_back side i n c some low e =
    let whole = div-add-mod' c side in
    let start = ap (λ k. k * side) e in
    let below = mod_below c side some in
    (omega arith, omega arith)

pub place_of_cell : (grid : GridValue) (tile c p : ℕ) → IsTileGrid grid → c < grid.columns → p < grid.picks → tile_of grid c p ≡ tile → IsPlace (part_at grid tile) c p
unfolding part_at
place_of_cell grid tile c p is hc hp e =
    let some = side_some grid is in
    let column = place_back grid.side (tile_column grid tile) grid.columns c some hc (sym (column_of_cell grid c p is hc) ∙ ap (tile_column grid) e) in
    let pick = place_back grid.side (tile_row grid tile) grid.picks p some hp (sym (row_of_cell grid c p is hc) ∙ ap (tile_row grid) e) in
    record { column = column.0; pick = pick.0; within = column.1; high = pick.1 }

pub column_inside : (grid : GridValue) (tile a : ℕ) → a < (part_at grid tile).width → (part_at grid tile).column + a < grid.columns
unfolding part_at
column_inside grid tile a h = omega arith

pub pick_inside : (grid : GridValue) (tile b : ℕ) → b < (part_at grid tile).height → (part_at grid tile).pick + b < grid.picks
unfolding part_at
pick_inside grid tile b h = omega arith

pub tile_of-part : (grid : GridValue) (tile a b : ℕ) → a < (part_at grid tile).width → b < (part_at grid tile).height
    → tile_of grid ((part_at grid tile).column + a) ((part_at grid tile).pick + b) ≡ tile
unfolding part_at
tile_of-part grid tile a b ha hb =
    cell_of_tile grid tile (tile_column grid tile * grid.side + a) (tile_row grid tile * grid.side + b)
    (div-mul-add (tile_column grid tile) grid.side a (omega arith)) (div-mul-add (tile_row grid tile) grid.side b (omega arith))

-- ---- bound cells

-- what the law of two lines says of bound cells
abbrev pub IsBoundByLines : Design → Type 0
IsBoundByLines design = (paper : PaperCells) (column pick : ℕ) → IsPaperOf design paper → column < design.size.columns → pick < design.size.picks
    → bit_cell (bound design paper) column pick ≡ bound_by design (λ x. raw_cell design.book paper x pick) (λ y. raw_cell design.book paper column y) column pick

raw_along_is : (design : Design) (paper : PaperCells) (part : Part) (along up : List ℕ) (b x : ℕ) → IsPaperOf design paper → AreColoursOf part paper along up → b < part.height → x < design.size.columns
    → raw_along design part along b x ≡ raw_cell design.book paper x (part.pick + b)
raw_along_is design paper part along up b x is lines hb hx =
    ap (λ colour. colour_mark design.book colour x (part.pick + b)) (ap (λ n. item_of n along b x) (sym is.columns) ∙ lines.along_picks b x hb (subst (λ n. x < n) (sym is.columns) hx))

raw_up_is : (design : Design) (paper : PaperCells) (part : Part) (along up : List ℕ) (a y : ℕ) → IsPaperOf design paper → AreColoursOf part paper along up → a < part.width → y < design.size.picks
    → raw_up design part up a y ≡ raw_cell design.book paper (part.column + a) y
raw_up_is design paper part along up a y is lines ha hy =
    ap (λ colour. colour_mark design.book colour (part.column + a) y) (ap (λ n. item_of n up a y) (sym is.picks) ∙ lines.up_columns a y ha (subst (λ n. y < n) (sym is.picks) hy))

pub bound_from : (design : Design) (tile : ℕ) (along up : List ℕ) (cells : GridCells) → Fits design → IsBoundByLines design
    → AreBoundBy design (part_at (grid_of design) tile) (part_at (grid_of design) tile).height (raw_along design (part_at (grid_of design) tile) along) (raw_up design (part_at (grid_of design) tile) up) cells
    → AreBound design tile along up cells
bound_from design tile along up cells fits law made paper is lines c p hc hp e =
    let part = part_at (grid_of design) tile in
    let place = place_of_cell (grid_of design) tile c p (grid_there design fits) hc hp e in
    let a = c - part.column in
    let b = p - part.pick in
    let row = λ (x : ℕ). raw_cell design.book paper x (part.pick + b) in
    let column = λ (y : ℕ). raw_cell design.book paper (part.column + a) y in
    let long = long_cell_alike design (raw_along design part along b) row (raw_up design part up a) column (part.column + a) (part.pick + b)
    (λ x h. raw_along_is design paper part along up b (slice_index design.tie.ends x) is lines place.high (fits.tied x 0 h))
    (λ y h. raw_up_is design paper part along up a y is lines place.within h) in
    made a b place.within place.high
    ∙ bound_around design (raw_along design part along b) row (raw_up design part up a) column (part.column + a) (part.pick + b) long
    (raw_along_is design paper part along up b (part.column + a) is lines place.high (column_inside (grid_of design) tile a place.within))
    ∙ ap (λ n. bound_by design row (λ y. raw_cell design.book paper n y) n (part.pick + b)) place.column
    ∙ ap (λ n. bound_by design (λ x. raw_cell design.book paper x n) (λ y. raw_cell design.book paper c y) c n) place.pick
    ∙ sym (law paper c p is hc hp)

-- ---- long cells

-- what the law of two lines says of long cells
abbrev pub IsLongByLines : Design → Type 0
IsLongByLines design = (bits : BitCells) (column pick : ℕ) → column < design.size.columns → length bits.rows ≡ design.size.picks → pick < design.size.picks
    → column_long design bits column pick ≡ long_cell_by design (λ x. bit_cell bits x pick) (λ y. bit_cell bits column y) column pick

long_of_lines : (design : Design) (part : Part) (along up : GridCells) (bits : BitCells) (a b : ℕ) → Fits design → IsLongByLines design → IsBitsOf design bits → AreBitsOf part bits along up
    → a < part.width → b < part.height → part.column + a < design.size.columns → part.pick + b < design.size.picks
    → is_long_in design part (λ j x. grid_cell along x j) (λ k y. grid_cell up y k) a b ≡ column_long design bits (part.column + a) (part.pick + b)
long_of_lines design part along up bits a b fits law is lines ha hb hc hp =
    long_cell_alike design (λ x. grid_cell along x b) (λ x. bit_cell bits x (part.pick + b)) (λ y. grid_cell up y a) (λ y. bit_cell bits (part.column + a) y) (part.column + a) (part.pick + b)
    (λ x h. lines.along_picks b (slice_index design.tie.ends x) hb (subst (λ n. slice_index design.tie.ends x < n) (sym is.columns) (fits.tied x 0 h)))
    (λ y h. lines.up_columns a y ha (subst (λ n. y < n) (sym is.picks) h))
    ∙ sym (law bits (part.column + a) (part.pick + b) hc is.picks hp)

-- some cell of the part is long, by its lines
abbrev pub some_long : Design → Part → GridCells → GridCells → Bool
some_long design part along up = any_below (λ b. any_below (λ a. is_long_in design part (λ j x. grid_cell along x j) (λ k y. grid_cell up y k) a b) part.width) part.height

pub flag_from : (design : Design) (tile : ℕ) (along up : GridCells) → Fits design → IsLongByLines design → IsFlag design tile along up (some_long design (part_at (grid_of design) tile) along up)
unfolding has_long
flag_from design tile along up fits law bits is lines =
    let grid = grid_of design in
    let part = part_at grid tile in
    let cell = λ (b a : ℕ). is_long_in design part (λ j x. grid_cell along x j) (λ k y. grid_cell up y k) a b in
    let row = λ (b : ℕ). any_below (cell b) part.width in
    true_together (any_below row part.height) (any_cell grid tile (column_long design bits))
    (λ some.
    let b = any_witness row part.height some in
    let a = any_witness (cell b.0) part.width b.2 in
    let hc = column_inside grid tile a.0 a.1 in
    let hp = pick_inside grid tile b.0 b.1 in
    any_cell_here grid tile (column_long design bits) (record {
      c = part.column + a.0;
      p = part.pick + b.0;
      c_low = hc;
      p_low = hp;
      of_tile = tile_of-part grid tile a.0 b.0 a.1 b.1;
      passes = sym (long_of_lines design part along up bits a.0 b.0 fits law is lines a.1 b.1 hc hp) ∙ a.2;
    }))
    (λ some.
    let w = any_cell_witness grid tile (column_long design bits) some in
    let place = place_of_cell grid tile w.c w.p (grid_there design fits) w.c_low w.p_low w.of_tile in
    let a = w.c - part.column in
    let b = w.p - part.pick in
    any_here row part.height b place.high
    (any_here (cell b) part.width a place.within
    (long_of_lines design part along up bits a b fits law is lines place.within place.high (column_inside grid tile a place.within) (pick_inside grid tile b place.high)
    ∙ ap (λ n. column_long design bits n (part.pick + b)) place.column ∙ ap (λ n. column_long design bits w.c n) place.pick ∙ w.passes)))
