-- What a grid keeps tells which tiles are near.
use Rattle.std.proofs.Common.{◌≡◌, ℕ, ◌+◌, ◌*◌, ◌/◌, ◌%◌, ◌<◌, ◌==◌, Bool, true, false, ◌&&◌, ◌||◌, List, length, get_or, refl, sym, ap, subst, ◌∙◌, count_by, arith}
use Rattle.std.proofs.lemmas.Nat.{div_below, mod_below}
use Rattle.mill_base.specs.Below.{count_below}
use Rattle.mill_base.specs.Grids.{GridCells}
use Rattle.mill_base.specs.Lines.{line_by}
use Rattle.mill_base.proofs.lemmas.Belows.{count_alike}
use Rattle.mill_base.proofs.lemmas.Lines.{length-line_by, get_or-line_by}
use Rattle.tile_grid.specs.Tiles.{GridValue, IsTileGrid, across, down, tiles, tile_of, tile_column, tile_row}
use Rattle.tile_grid.specs.Near.{near, near_columns, near_rows, IsNearAt}
use Rattle.tile_grid.specs.inner.Grids.{IsKept}
use Rattle.tile_grid.specs.inner.Tables.{is_crossed, IsCrossedAt}
use Rattle.tile_grid.proofs.Counts.{counted_line}
use Rattle.tile_grid.proofs.Crossings.{crossed, count_all}
use Rattle.tile_grid.proofs.lemmas.Splits.{near_is_split, near_columns_itself, near_rows_itself}
use Rattle.tile_grid.proofs.lemmas.Tiles.{across_some, column_there, row_there}

abbrev pub columns_of : GridValue → ℕ → List Bool
columns_of grid t = line_by (across grid) (near_columns grid (tile_column grid t))

abbrev pub rows_of : GridValue → ℕ → List Bool
rows_of grid t = line_by (down grid) (near_rows grid (tile_row grid t))

abbrev pub is_named : GridValue → ℕ → ℕ → Bool
is_named grid t = crossed (near_columns grid (tile_column grid t)) (near_rows grid (tile_row grid t)) (across grid) (tile_column grid t) (tile_row grid t)

crossed_lines : (n m i j u : ℕ) (p q : ℕ → Bool) → 0 < n → u < n * m → is_crossed (line_by n p) (line_by m q) i j u ≡ crossed p q n i j u
crossed_lines n m i j u p q some low =
    ap (λ w. (j == u / w && get_or (line_by n p) (u % w) false) || (i == u % w && get_or (line_by m q) (u / w) false)) (length-line_by n p)
    ∙ ap (λ a. (j == u / n && a) || (i == u % n && get_or (line_by m q) (u / n) false)) (get_or-line_by n p (u % n) false (mod_below u n some))
    ∙ ap (λ b. (j == u / n && p (u % n)) || (i == u % n && b)) (get_or-line_by m q (u / n) false (div_below u n m some (let e : n * m ≡ m * n = turned n m in omega arith)))
  where
    turned : (a b : ℕ) → a * b ≡ b * a
    turned a b = grind arith

near_named : (grid : GridValue) (t u : ℕ) → IsTileGrid grid → t < tiles grid → near grid t u ≡ is_named grid t u
near_named grid t u is low = near_is_split grid t u is low

pub near_crossed : (grid : GridValue) (t u : ℕ) → IsTileGrid grid → t < tiles grid → u < tiles grid
    → near grid t u ≡ is_crossed (columns_of grid t) (rows_of grid t) (tile_column grid t) (tile_row grid t) u
near_crossed grid t u is low there =
    near_named grid t u is low
    ∙ sym (crossed_lines (across grid) (down grid) (tile_column grid t) (tile_row grid t) u (near_columns grid (tile_column grid t)) (near_rows grid (tile_row grid t)) (across_some grid is) there)

-- how many are near
pub near_counted : (grid : GridValue) (t : ℕ) → IsTileGrid grid → t < tiles grid
    → count_below (near grid t) (tiles grid) + 1 ≡ count_by (λ b. b) (columns_of grid t) + count_by (λ b. b) (rows_of grid t)
near_counted grid t is low =
    let named = count_alike (near grid t) (is_named grid t) (tiles grid) (λ u h. near_named grid t u is low) in
    let all = count_all (near_columns grid (tile_column grid t)) (near_rows grid (tile_row grid t)) (across grid) (down grid) (tile_column grid t) (tile_row grid t)
    (column_there grid t is) (row_there grid t is low) (near_columns_itself grid (tile_column grid t) (tile_column grid t) refl) (near_rows_itself grid (tile_row grid t) (tile_row grid t) refl) in
    let columns = counted_line (across grid) (near_columns grid (tile_column grid t)) in
    let rows = counted_line (down grid) (near_rows grid (tile_row grid t)) in
    omega arith

-- the k-th of them
pub near_found : (grid : GridValue) (t k u : ℕ) → IsTileGrid grid → t < tiles grid
    → IsCrossedAt (columns_of grid t) (rows_of grid t) (tile_column grid t) (tile_row grid t) k u → IsNearAt grid t k u
near_found grid t k u is low found =
    let wide = length-line_by (across grid) (near_columns grid (tile_column grid t)) in
    let high = length-line_by (down grid) (near_rows grid (tile_row grid t)) in
    let there : u < tiles grid = subst (λ (n : ℕ). u < n) (ap (λ n. n * length (rows_of grid t)) wide ∙ ap (λ m. across grid * m) high) found.there in
    record {
      there = there;
      here = near_crossed grid t u is low there ∙ found.here;
      before = count_alike (near grid t) (is_crossed (columns_of grid t) (rows_of grid t) (tile_column grid t) (tile_row grid t)) u
          (λ v h. near_crossed grid t v is low (omega arith)) ∙ found.before;
    }

-- the tile itself is among them
pub column_itself : (grid : GridValue) (t : ℕ) → IsTileGrid grid → get_or (columns_of grid t) (tile_column grid t) false ≡ true
column_itself grid t is =
    get_or-line_by (across grid) (near_columns grid (tile_column grid t)) (tile_column grid t) false (column_there grid t is)
    ∙ near_columns_itself grid (tile_column grid t) (tile_column grid t) refl

pub row_itself : (grid : GridValue) (t : ℕ) → IsTileGrid grid → t < tiles grid → get_or (rows_of grid t) (tile_row grid t) false ≡ true
row_itself grid t is low =
    get_or-line_by (down grid) (near_rows grid (tile_row grid t)) (tile_row grid t) false (row_there grid t is low)
    ∙ near_rows_itself grid (tile_row grid t) (tile_row grid t) refl

-- ---- what the grid's methods read

pub read_columns : (grid : GridValue) (t w : ℕ) (columns : List Bool) → w ≡ across grid → columns ≡ line_by (across grid) (near_columns grid (t % w)) → columns ≡ columns_of grid t
read_columns grid t w columns wide is = is ∙ ap (λ n. line_by (across grid) (near_columns grid (t % n))) wide

pub read_rows : (grid : GridValue) (t w : ℕ) (rows : List Bool) → w ≡ across grid → rows ≡ line_by (down grid) (near_rows grid (t / w)) → rows ≡ rows_of grid t
read_rows grid t w rows wide is = is ∙ ap (λ n. line_by (down grid) (near_rows grid (t / n))) wide

pub read_sum : (grid : GridValue) (t w one other : ℕ) (columns rows : List Bool) → IsTileGrid grid → t < tiles grid → w ≡ across grid
    → columns ≡ line_by (across grid) (near_columns grid (t % w)) → rows ≡ line_by (down grid) (near_rows grid (t / w))
    → one ≡ count_by (λ b. b) columns → other ≡ count_by (λ b. b) rows → one + other ≡ count_below (near grid t) (tiles grid) + 1
read_sum grid t w one other columns rows is low wide are_columns are_rows are_one are_other =
    let all = near_counted grid t is low in
    let a : one ≡ count_by (λ b. b) (columns_of grid t) = are_one ∙ ap (count_by (λ b. b)) (read_columns grid t w columns wide are_columns) in
    let b : other ≡ count_by (λ b. b) (rows_of grid t) = are_other ∙ ap (count_by (λ b. b)) (read_rows grid t w rows wide are_rows) in
    omega arith

pub kept_tiles : (grid : GridValue) (columns rows : GridCells) (w h : ℕ) → IsKept grid columns rows → w ≡ columns.width → h ≡ rows.width → w * h ≡ tiles grid
kept_tiles grid columns rows w h kept wide high = ap (λ n. n * h) (wide ∙ kept.columns_kept.width) ∙ ap (λ n. across grid * n) (high ∙ kept.rows_kept.width)

pub kept_tile : (grid : GridValue) (columns rows : GridCells) (c p w side : ℕ) → IsKept grid columns rows → w ≡ columns.width → side ≡ grid.side → p / side * w + c / side ≡ tile_of grid c p
unfolding tile_of
kept_tile grid columns rows c p w side kept wide is =
    ap (λ s. p / s * w + c / s) is ∙ ap (λ n. p / grid.side * n + c / grid.side) (wide ∙ kept.columns_kept.width)
