-- Near tiles stand in one tile row or in one tile column.
use Rattle.std.proofs.Common.{◌≡◌, ℕ, ◌*◌, ◌/◌, ◌<◌, ◌==◌, Bool, true, ◌&&◌, ◌||◌, length, refl, sym, ap, ◌∙◌, ⊎_elim, eqb-true, eq-eqb}
use Rattle.std.specs.Prelude.{slice_index}
use Rattle.std.proofs.lemmas.Bool.{or_cases, or_left, or_right, and_from, and_parts}
use Rattle.mill_base.proofs.lemmas.Belows.{true_together}
use Rattle.tile_grid.specs.Tiles.{GridValue, IsTileGrid, tiles, tile_at, tile_column, tile_row}
use Rattle.tile_grid.specs.Near.{kinds_near, ends_near, picks_near, near, near_columns, near_rows}
use Rattle.tile_grid.proofs.lemmas.Near.{NearCells, kinds_near_here, kinds_near_witness, near_by_cells, near_itself, near_cases}
use Rattle.tile_grid.proofs.lemmas.Tiles.{side_some, column_of_cell, row_of_cell, tile_is, cell_of_tile, first_column, first_pick, first_of_tile}

-- the tile row of t is that of u, and their tile columns are near; or the tile column of t is that of u, and their tile
-- rows are near
abbrev pub is_split : GridValue → ℕ → ℕ → Bool
is_split grid t u =
    (tile_row grid t == tile_row grid u && near_columns grid (tile_column grid t) (tile_column grid u))
    || (tile_column grid t == tile_column grid u && near_rows grid (tile_row grid t) (tile_row grid u))

pub near_columns_itself : (grid : GridValue) (i j : ℕ) → i ≡ j → near_columns grid i j ≡ true
unfolding near_columns
near_columns_itself grid i j same = or_left (i == j) (kinds_near (length grid.tie) grid.weft_limit (λ e. slice_index grid.tie e / grid.side) i j) (eq-eqb i j same)

pub near_rows_itself : (grid : GridValue) (i j : ℕ) → i ≡ j → near_rows grid i j ≡ true
unfolding near_rows
near_rows_itself grid i j same = or_left (i == j) (kinds_near grid.picks grid.warp_limit (λ p. p / grid.side) i j) (eq-eqb i j same)

in_row : (grid : GridValue) (t u : ℕ) → tile_row grid t ≡ tile_row grid u → near_columns grid (tile_column grid t) (tile_column grid u) ≡ true → is_split grid t u ≡ true
in_row grid t u row columns =
    or_left (tile_row grid t == tile_row grid u && near_columns grid (tile_column grid t) (tile_column grid u)) (tile_column grid t == tile_column grid u && near_rows grid (tile_row grid t) (tile_row grid u))
    (and_from (tile_row grid t == tile_row grid u) (near_columns grid (tile_column grid t) (tile_column grid u)) (eq-eqb (tile_row grid t) (tile_row grid u) row) columns)

in_column : (grid : GridValue) (t u : ℕ) → tile_column grid t ≡ tile_column grid u → near_rows grid (tile_row grid t) (tile_row grid u) ≡ true → is_split grid t u ≡ true
in_column grid t u column rows =
    or_right (tile_row grid t == tile_row grid u && near_columns grid (tile_column grid t) (tile_column grid u)) (tile_column grid t == tile_column grid u && near_rows grid (tile_row grid t) (tile_row grid u))
    (and_from (tile_column grid t == tile_column grid u) (near_rows grid (tile_row grid t) (tile_row grid u)) (eq-eqb (tile_column grid t) (tile_column grid u) column) rows)

-- columns with near ends are of near tile columns
columns_by_ends : (grid : GridValue) (c d : ℕ) → ends_near grid c d ≡ true → near_columns grid (c / grid.side) (d / grid.side) ≡ true
unfolding near_columns
columns_by_ends grid c d some =
    let w = kinds_near_witness (length grid.tie) grid.weft_limit (slice_index grid.tie) c d some in
    or_right (c / grid.side == d / grid.side) (kinds_near (length grid.tie) grid.weft_limit (λ e. slice_index grid.tie e / grid.side) (c / grid.side) (d / grid.side))
    (kinds_near_here (length grid.tie) grid.weft_limit (λ e. slice_index grid.tie e / grid.side) (c / grid.side) (d / grid.side)
    (record { x = w.x; y = w.y; x_low = w.x_low; y_low = w.y_low; x_kind = ap (λ n. n / grid.side) w.x_kind; y_kind = ap (λ n. n / grid.side) w.y_kind; close = w.close }))

-- near picks are of near tile rows
rows_by_picks : (grid : GridValue) (p q : ℕ) → p < grid.picks → q < grid.picks → picks_near grid p q ≡ true → near_rows grid (p / grid.side) (q / grid.side) ≡ true
unfolding near_rows
rows_by_picks grid p q hp hq close =
    or_right (p / grid.side == q / grid.side) (kinds_near grid.picks grid.warp_limit (λ k. k / grid.side) (p / grid.side) (q / grid.side))
    (kinds_near_here grid.picks grid.warp_limit (λ k. k / grid.side) (p / grid.side) (q / grid.side) (record { x = p; y = q; x_low = hp; y_low = hq; x_kind = refl; y_kind = refl; close = close }))

split_by_cells : (grid : GridValue) (t u : ℕ) → IsTileGrid grid → NearCells grid t u → is_split grid t u ≡ true
split_by_cells grid t u is w =
    let t_column : tile_column grid t ≡ w.c / grid.side = ap (tile_column grid) (sym w.of_t) ∙ column_of_cell grid w.c w.p is w.c_low in
    let u_column : tile_column grid u ≡ w.d / grid.side = ap (tile_column grid) (sym w.of_u) ∙ column_of_cell grid w.d w.q is w.d_low in
    let t_row : tile_row grid t ≡ w.p / grid.side = ap (tile_row grid) (sym w.of_t) ∙ row_of_cell grid w.c w.p is w.c_low in
    let u_row : tile_row grid u ≡ w.q / grid.side = ap (tile_row grid) (sym w.of_u) ∙ row_of_cell grid w.d w.q is w.d_low in
    ⊎_elim
    (λ (along : (w.p == w.q && ends_near grid w.c w.d) ≡ true).
    let both = and_parts (w.p == w.q) (ends_near grid w.c w.d) along in
    in_row grid t u (t_row ∙ ap (λ n. n / grid.side) (eqb-true w.p w.q both.0) ∙ sym u_row) (rw (t_column, u_column) (columns_by_ends grid w.c w.d both.1)))
    (λ (up : (w.c == w.d && picks_near grid w.p w.q) ≡ true).
    let both = and_parts (w.c == w.d) (picks_near grid w.p w.q) up in
    in_column grid t u (t_column ∙ ap (λ n. n / grid.side) (eqb-true w.c w.d both.0) ∙ sym u_column) (rw (t_row, u_row) (rows_by_picks grid w.p w.q w.p_low w.q_low both.1)))
    (or_cases (w.p == w.q && ends_near grid w.c w.d) (w.c == w.d && picks_near grid w.p w.q) w.close)

-- a tile in the same tile row and tile column is the same
same_place : (grid : GridValue) (t u : ℕ) → tile_row grid t ≡ tile_row grid u → tile_column grid t ≡ tile_column grid u → t ≡ u
same_place grid t u row column = sym (tile_is grid t) ∙ ap (λ i. tile_at grid i (tile_row grid t)) column ∙ ap (tile_at grid (tile_column grid u)) row ∙ tile_is grid u

near_in_row : (grid : GridValue) (t u : ℕ) → IsTileGrid grid → t < tiles grid → tile_row grid t ≡ tile_row grid u
    → near_columns grid (tile_column grid t) (tile_column grid u) ≡ true → near grid t u ≡ true
unfolding near_columns
near_in_row grid t u is low row columns = ⊎_elim
    (λ (same : (tile_column grid t == tile_column grid u) ≡ true). near_itself grid t u (same_place grid t u row (eqb-true (tile_column grid t) (tile_column grid u) same)))
    (λ (some : kinds_near (length grid.tie) grid.weft_limit (λ e. slice_index grid.tie e / grid.side) (tile_column grid t) (tile_column grid u) ≡ true).
    let w = kinds_near_witness (length grid.tie) grid.weft_limit (λ e. slice_index grid.tie e / grid.side) (tile_column grid t) (tile_column grid u) some in
    let c = slice_index grid.tie w.x in
    let d = slice_index grid.tie w.y in
    let p = tile_row grid t * grid.side in
    let p_row : p / grid.side ≡ tile_row grid t = first_of_tile (tile_row grid t) grid.side (side_some grid is) in
    near_by_cells grid t u (record {
      c = c;
      p = p;
      d = d;
      q = p;
      c_low = is.tied w.x 0 w.x_low;
      p_low = first_pick grid t is low;
      d_low = is.tied w.y 0 w.y_low;
      q_low = first_pick grid t is low;
      of_t = cell_of_tile grid t c p w.x_kind p_row;
      of_u = cell_of_tile grid u d p w.y_kind (p_row ∙ row);
      close = or_left (p == p && ends_near grid c d) (c == d && picks_near grid p p) (and_from (p == p) (ends_near grid c d) (eq-eqb p p refl)
          (kinds_near_here (length grid.tie) grid.weft_limit (slice_index grid.tie) c d (record { x = w.x; y = w.y; x_low = w.x_low; y_low = w.y_low; x_kind = refl; y_kind = refl; close = w.close })));
    }))
    (or_cases (tile_column grid t == tile_column grid u) (kinds_near (length grid.tie) grid.weft_limit (λ e. slice_index grid.tie e / grid.side) (tile_column grid t) (tile_column grid u)) columns)

near_in_column : (grid : GridValue) (t u : ℕ) → IsTileGrid grid → tile_column grid t ≡ tile_column grid u
    → near_rows grid (tile_row grid t) (tile_row grid u) ≡ true → near grid t u ≡ true
unfolding near_rows
near_in_column grid t u is column rows = ⊎_elim
    (λ (same : (tile_row grid t == tile_row grid u) ≡ true). near_itself grid t u (same_place grid t u (eqb-true (tile_row grid t) (tile_row grid u) same) column))
    (λ (some : kinds_near grid.picks grid.warp_limit (λ p. p / grid.side) (tile_row grid t) (tile_row grid u) ≡ true).
    let w = kinds_near_witness grid.picks grid.warp_limit (λ p. p / grid.side) (tile_row grid t) (tile_row grid u) some in
    let c = tile_column grid t * grid.side in
    let c_column : c / grid.side ≡ tile_column grid t = first_of_tile (tile_column grid t) grid.side (side_some grid is) in
    near_by_cells grid t u (record {
      c = c;
      p = w.x;
      d = c;
      q = w.y;
      c_low = first_column grid t is;
      p_low = w.x_low;
      d_low = first_column grid t is;
      q_low = w.y_low;
      of_t = cell_of_tile grid t c w.x c_column w.x_kind;
      of_u = cell_of_tile grid u c w.y (c_column ∙ column) w.y_kind;
      close = or_right (w.x == w.y && ends_near grid c c) (c == c && picks_near grid w.x w.y) (and_from (c == c) (picks_near grid w.x w.y) (eq-eqb c c refl) w.close);
    }))
    (or_cases (tile_row grid t == tile_row grid u) (kinds_near grid.picks grid.warp_limit (λ p. p / grid.side) (tile_row grid t) (tile_row grid u)) rows)

near_by_split : (grid : GridValue) (t u : ℕ) → IsTileGrid grid → t < tiles grid → is_split grid t u ≡ true → near grid t u ≡ true
near_by_split grid t u is low split = ⊎_elim
    (λ (row : (tile_row grid t == tile_row grid u && near_columns grid (tile_column grid t) (tile_column grid u)) ≡ true).
    let both = and_parts (tile_row grid t == tile_row grid u) (near_columns grid (tile_column grid t) (tile_column grid u)) row in
    near_in_row grid t u is low (eqb-true (tile_row grid t) (tile_row grid u) both.0) both.1)
    (λ (column : (tile_column grid t == tile_column grid u && near_rows grid (tile_row grid t) (tile_row grid u)) ≡ true).
    let both = and_parts (tile_column grid t == tile_column grid u) (near_rows grid (tile_row grid t) (tile_row grid u)) column in
    near_in_column grid t u is (eqb-true (tile_column grid t) (tile_column grid u) both.0) both.1)
    (or_cases (tile_row grid t == tile_row grid u && near_columns grid (tile_column grid t) (tile_column grid u)) (tile_column grid t == tile_column grid u && near_rows grid (tile_row grid t) (tile_row grid u)) split)

pub near_is_split : (grid : GridValue) (t u : ℕ) → IsTileGrid grid → t < tiles grid → near grid t u ≡ is_split grid t u
near_is_split grid t u is low = true_together (near grid t u) (is_split grid t u)
    (λ some. ⊎_elim
    (λ (same : t ≡ u). in_row grid t u (ap (tile_row grid) same) (near_columns_itself grid (tile_column grid t) (tile_column grid u) (ap (tile_column grid) same)))
    (λ (w : NearCells grid t u). split_by_cells grid t u is w)
    (near_cases grid t u some))
    (near_by_split grid t u is low)
