-- Which tiles are near one another: those of which the one has a cell that a change in a cell of the other can reach.
use Rattle.std.specs.Prelude.{◌≡◌, ℕ, ◌+◌, ◌-◌, ◌/◌, ◌%◌, ◌<◌, ◌==◌, nat_le, ℤ, pos, ◌+ℤ◌, ◌≤ℤ◌, Bool, true, ◌&&◌, ◌||◌, length, slice_index}
use Rattle.mill_base.specs.Below.{any_below, count_below}
use Rattle.tile_grid.specs.Tiles.{GridValue, tile_of, tiles}

-- places x and y of a line of n places lie at most `limit` places apart, one way or the other round its edge
abbrev pub is_near : ℕ → ℕ → ℕ → ℕ → Bool
is_near n limit x y = nat_le ((y + n - x) % n) limit || nat_le ((x + n - y) % n) limit

-- on a line of n places, each of some kind, a place of kind a and a place of kind b lie within the limit, round its
-- edge
unfoldable pub kinds_near : ℕ → ℕ → (ℕ → ℕ) → ℕ → ℕ → Bool
kinds_near n limit kind a b = any_below (λ x. kind x == a && any_below (λ y. kind y == b && is_near n limit x y) n) n

-- on the cloth an end of column c and an end of column d lie within the weft limit, round the repeat
abbrev pub ends_near : GridValue → ℕ → ℕ → Bool
ends_near grid c d = kinds_near (length grid.tie) grid.weft_limit (slice_index grid.tie) c d

-- picks p and q lie within the warp limit, round the repeat
abbrev pub picks_near : GridValue → ℕ → ℕ → Bool
picks_near grid p q = is_near grid.picks grid.warp_limit p q

-- the cell in column c of pick p and the cell in column d of pick q: they are of one pick and have ends near one
-- another, or of one column and of picks near one another
abbrev pub cells_near : GridValue → ℕ → ℕ → ℕ → ℕ → Bool
cells_near grid c p d q = (p == q && ends_near grid c d) || (c == d && picks_near grid p q)

-- some cell of a tile passes a test of its column and its pick
unfoldable pub any_cell : GridValue → ℕ → (ℕ → ℕ → Bool) → Bool
any_cell grid tile test = any_below (λ p. any_below (λ c. tile_of grid c p == tile && test c p) grid.columns) grid.picks

-- tile u is near tile t: it is t itself, or a cell of t and a cell of u are near one another
unfoldable pub near : GridValue → ℕ → ℕ → Bool
near grid t u = t == u || any_cell grid t (λ c p. any_cell grid u (cells_near grid c p))

-- tile columns i and j are one, or have ends within the weft limit, round the repeat
unfoldable pub near_columns : GridValue → ℕ → ℕ → Bool
near_columns grid i j = i == j || kinds_near (length grid.tie) grid.weft_limit (λ e. slice_index grid.tie e / grid.side) i j

-- tile rows i and j are one, or have picks within the warp limit, round the repeat
unfoldable pub near_rows : GridValue → ℕ → ℕ → Bool
near_rows grid i j = i == j || kinds_near grid.picks grid.warp_limit (λ p. p / grid.side) i j

-- u is the k-th tile near t, counted from 0 in rising order: it is near t, and so many near tiles stand before it
pub record IsNearAt (grid : GridValue) (t k u : ℕ) : Type 0 where
  pub there : u < tiles grid
  pub here : near grid t u ≡ true
  pub before : count_below (near grid t) u ≡ k

-- whole numbers that lie at most `limit` apart
abbrev pub AreWithin : ℕ → ℤ → ℤ → Type 0
AreWithin limit x y = (x ≤ℤ (y +ℤ pos limit)) × (y ≤ℤ (x +ℤ pos limit))
