-- Tiles and their cells.
use Rattle.std.proofs.Common.{◌≡◌, ℕ, ◌+◌, ◌-◌, ◌*◌, ◌/◌, ◌^◌, ◌<◌, ◌≤◌, ap, subst, ◌∙◌, arith}
use Rattle.std.proofs.Math.Nat.{div-mul-le_self, lt-div-mul-add, mul-div_left, mul-le-mul_right, div-le_of_le-mul}
use Rattle.std.proofs.lemmas.Nat.{div_below, mod_below, mul-add-lt, div-mul-add, mod-mul-add, div-add-mod'}
use Rattle.tile_grid.specs.Tiles.{GridValue, IsTileGrid, tiles_along, across, down, tiles, tile_at, tile_of, tile_column, tile_row}

-- the tiles along a line cover all its places
pub covered : (places side k : ℕ) → 0 < side → k < places → k / side < tiles_along places side
unfolding tiles_along
covered places side k some low =
    let all = lt-div-mul-add {a = places + side - 1} {b = side} some in
    div_below k side ((places + side - 1) / side) some (omega arith)

-- each tile along a line has a first place
pub first_place : (places side i : ℕ) → 0 < side → i < tiles_along places side → i * side < places
unfolding tiles_along
first_place places side i some low =
    let whole = div-mul-le_self (places + side - 1) side in
    let more = mul-le-mul_right {m = i + 1} {n = (places + side - 1) / side} side (omega arith) in
    let next : (i + 1) * side ≡ i * side + side = grind arith in
    omega arith

-- a line has no more tiles than places
pub along_few : (places side : ℕ) → 0 < side → 0 < places → tiles_along places side ≤ places
unfolding tiles_along
along_few places side some somewhere = div-le_of_le-mul side (bound places side some somewhere) where
  grow : (n m : ℕ) → 0 < n → m ≤ n * m
  grow n m h = grind arith

  apart : (n k : ℕ) → (k + 1) * n ≡ n * k + n
  apart n k = grind arith

  bound : (places side : ℕ) → 0 < side → 0 < places → places + side - 1 ≤ side * places
  bound places side some somewhere =
      let rest = grow places (side - 1) somewhere in
      let whole = apart places (side - 1) in
      let e : side - 1 + 1 ≡ side = omega arith in
      subst (λ (m : ℕ). places + m - 1 ≤ m * places) e (omega arith)

pub along_some : (places side : ℕ) → 0 < side → 0 < places → 0 < tiles_along places side
along_some places side some somewhere = let h = covered places side 0 some somewhere in omega arith

pub side_some : (grid : GridValue) → IsTileGrid grid → 0 < grid.side
side_some grid is = let h = is.side_limit.0 in omega arith

pub across_some : (grid : GridValue) → IsTileGrid grid → 0 < across grid
across_some grid is = along_some grid.columns grid.side (side_some grid is) (let h = is.columns_limit.0 in omega arith)

pub down_some : (grid : GridValue) → IsTileGrid grid → 0 < down grid
down_some grid is = along_some grid.picks grid.side (side_some grid is) (let h = is.picks_limit.0 in omega arith)

-- the cell in a column of a pick is of a tile that is there
pub tile_there : (grid : GridValue) (c p : ℕ) → IsTileGrid grid → c < grid.columns → p < grid.picks → tile_of grid c p < tiles grid
unfolding tile_of
tile_there grid c p is hc hp =
    mul-add-lt (p / grid.side) (across grid) (c / grid.side) (down grid) (covered grid.picks grid.side p (side_some grid is) hp) (covered grid.columns grid.side c (side_some grid is) hc)

-- and of the tile column of its column, and the tile row of its pick
pub column_of_cell : (grid : GridValue) (c p : ℕ) → IsTileGrid grid → c < grid.columns → tile_column grid (tile_of grid c p) ≡ c / grid.side
unfolding tile_of
column_of_cell grid c p is hc = mod-mul-add (p / grid.side) (across grid) (c / grid.side) (covered grid.columns grid.side c (side_some grid is) hc)

pub row_of_cell : (grid : GridValue) (c p : ℕ) → IsTileGrid grid → c < grid.columns → tile_row grid (tile_of grid c p) ≡ p / grid.side
unfolding tile_of
row_of_cell grid c p is hc = div-mul-add (p / grid.side) (across grid) (c / grid.side) (covered grid.columns grid.side c (side_some grid is) hc)

-- a tile is the one in its tile column and its tile row, and both are there
pub tile_is : (grid : GridValue) (t : ℕ) → tile_at grid (tile_column grid t) (tile_row grid t) ≡ t
tile_is grid t = div-add-mod' t (across grid)

pub column_there : (grid : GridValue) (t : ℕ) → IsTileGrid grid → tile_column grid t < across grid
column_there grid t is = mod_below t (across grid) (across_some grid is)

pub row_there : (grid : GridValue) (t : ℕ) → IsTileGrid grid → t < tiles grid → tile_row grid t < down grid
row_there grid t is low = div_below t (across grid) (down grid) (across_some grid is) (let e : across grid * down grid ≡ down grid * across grid = grind arith in omega arith)

pub tile_at_there : (grid : GridValue) (i j : ℕ) → i < across grid → j < down grid → tile_at grid i j < tiles grid
tile_at_there grid i j hi hj = mul-add-lt j (across grid) i (down grid) hj hi

pub column_at : (grid : GridValue) (i j : ℕ) → i < across grid → tile_column grid (tile_at grid i j) ≡ i
column_at grid i j hi = mod-mul-add j (across grid) i hi

pub row_at : (grid : GridValue) (i j : ℕ) → i < across grid → tile_row grid (tile_at grid i j) ≡ j
row_at grid i j hi = div-mul-add j (across grid) i hi

-- the first column and the first pick of a tile are a cell of it
pub first_column : (grid : GridValue) (t : ℕ) → IsTileGrid grid → tile_column grid t * grid.side < grid.columns
first_column grid t is = first_place grid.columns grid.side (tile_column grid t) (side_some grid is) (column_there grid t is)

pub first_pick : (grid : GridValue) (t : ℕ) → IsTileGrid grid → t < tiles grid → tile_row grid t * grid.side < grid.picks
first_pick grid t is low = first_place grid.picks grid.side (tile_row grid t) (side_some grid is) (row_there grid t is low)

-- a cell of a tile column and a tile row is of the tile that stands there
pub cell_of_tile : (grid : GridValue) (t c p : ℕ) → c / grid.side ≡ tile_column grid t → p / grid.side ≡ tile_row grid t → tile_of grid c p ≡ t
unfolding tile_of
cell_of_tile grid t c p column row = ap (λ i. tile_at grid i (p / grid.side)) column ∙ ap (tile_at grid (tile_column grid t)) row ∙ tile_is grid t

pub first_of_tile : (n side : ℕ) → 0 < side → n * side / side ≡ n
first_of_tile n side some = mul-div_left n some

-- there are not too many to be counted
pub tiles_few : (grid : GridValue) → IsTileGrid grid → tiles grid ≤ 2 ^ 25
tiles_few grid is =
    let side = side_some grid is in
    let wide = along_few grid.columns grid.side side (let h = is.columns_limit.0 in omega arith) in
    let high = along_few grid.picks grid.side side (let h = is.picks_limit.0 in omega arith) in
    let a : across grid ≤ 4096 = let h = is.columns_limit.1 in omega arith in
    let b : down grid ≤ 8192 = let h = is.picks_limit.1 in omega arith in
    area (across grid) (down grid) a b
  where
    area : (a b : ℕ) → a ≤ 4096 → b ≤ 8192 → a * b ≤ 2 ^ 25
    area a b ha hb =
        let one = mul-le-mul_right {m = a} {n = 4096} b ha in
        omega arith
