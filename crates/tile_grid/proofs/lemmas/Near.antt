-- Nearness of places, of cells and of tiles.
use Rattle.std.proofs.Common.{◌≡◌, ℕ, ◌+◌, ◌-◌, ◌%◌, ◌<◌, ◌==◌, Bool, true, false, ◌&&◌, ◌||◌, ◌⊎◌, inl, inr, length, refl, sym, ◌∙◌, ⊎_elim, eqb-true, eq-eqb}
use Rattle.std.specs.Prelude.{slice_index, nat_le}
use Rattle.std.proofs.lemmas.Bool.{or_cases, or_left, or_right, and_from, and_parts}
use Rattle.mill_base.specs.Below.{any_below}
use Rattle.mill_base.proofs.lemmas.Belows.{any_here, any_witness, true_together}
use Rattle.tile_grid.specs.Tiles.{GridValue, tile_of}
use Rattle.tile_grid.specs.Near.{is_near, kinds_near, ends_near, picks_near, cells_near, any_cell, near}

same_turned : (a b : ℕ) → (a == b) ≡ true → (b == a) ≡ true
same_turned a b same = eq-eqb b a (sym (eqb-true a b same))

-- ---- places

pub is_near-symmetric : (n limit x y : ℕ) → is_near n limit x y ≡ is_near n limit y x
is_near-symmetric n limit x y = or_turned (nat_le ((y + n - x) % n) limit) (nat_le ((x + n - y) % n) limit) where
  or_turned : (a b : Bool) → (a || b) ≡ (b || a)
  or_turned true true = refl
  or_turned true false = refl
  or_turned false true = refl
  or_turned false false = refl

-- two places of some kinds that are near one another
pub record NearPlaces (n limit : ℕ) (kind : ℕ → ℕ) (a b : ℕ) : Type 0 where
  pub x : ℕ
  pub y : ℕ
  pub x_low : x < n
  pub y_low : y < n
  pub x_kind : kind x ≡ a
  pub y_kind : kind y ≡ b
  pub close : is_near n limit x y ≡ true

pub kinds_near_here : (n limit : ℕ) (kind : ℕ → ℕ) (a b : ℕ) → NearPlaces n limit kind a b → kinds_near n limit kind a b ≡ true
unfolding kinds_near
kinds_near_here n limit kind a b w =
    any_here (λ x. kind x == a && any_below (λ y. kind y == b && is_near n limit x y) n) n w.x w.x_low
    (and_from (kind w.x == a) (any_below (λ y. kind y == b && is_near n limit w.x y) n) (eq-eqb (kind w.x) a w.x_kind)
    (any_here (λ y. kind y == b && is_near n limit w.x y) n w.y w.y_low (and_from (kind w.y == b) (is_near n limit w.x w.y) (eq-eqb (kind w.y) b w.y_kind) w.close)))

pub kinds_near_witness : (n limit : ℕ) (kind : ℕ → ℕ) (a b : ℕ) → kinds_near n limit kind a b ≡ true → NearPlaces n limit kind a b
unfolding kinds_near
kinds_near_witness n limit kind a b some =
    let one = any_witness (λ x. kind x == a && any_below (λ y. kind y == b && is_near n limit x y) n) n some in
    let first = and_parts (kind one.0 == a) (any_below (λ y. kind y == b && is_near n limit one.0 y) n) one.2 in
    let other = any_witness (λ y. kind y == b && is_near n limit one.0 y) n first.1 in
    let second = and_parts (kind other.0 == b) (is_near n limit one.0 other.0) other.2 in
    record { x = one.0; y = other.0; x_low = one.1; y_low = other.1; x_kind = eqb-true (kind one.0) a first.0; y_kind = eqb-true (kind other.0) b second.0; close = second.1 }

kinds_turned : (n limit : ℕ) (kind : ℕ → ℕ) (a b : ℕ) → kinds_near n limit kind a b ≡ true → kinds_near n limit kind b a ≡ true
kinds_turned n limit kind a b some =
    let w = kinds_near_witness n limit kind a b some in
    kinds_near_here n limit kind b a (record { x = w.y; y = w.x; x_low = w.y_low; y_low = w.x_low; x_kind = w.y_kind; y_kind = w.x_kind; close = is_near-symmetric n limit w.y w.x ∙ w.close })

-- ---- cells

cells_turned : (grid : GridValue) (c p d q : ℕ) → cells_near grid c p d q ≡ true → cells_near grid d q c p ≡ true
cells_turned grid c p d q some = ⊎_elim
    (λ (along : (p == q && ends_near grid c d) ≡ true).
    let w = and_parts (p == q) (ends_near grid c d) along in
    or_left (q == p && ends_near grid d c) (d == c && picks_near grid q p)
    (and_from (q == p) (ends_near grid d c) (same_turned p q w.0) (kinds_turned (length grid.tie) grid.weft_limit (slice_index grid.tie) c d w.1)))
    (λ (up : (c == d && picks_near grid p q) ≡ true).
    let w = and_parts (c == d) (picks_near grid p q) up in
    or_right (q == p && ends_near grid d c) (d == c && picks_near grid q p)
    (and_from (d == c) (picks_near grid q p) (same_turned c d w.0) (is_near-symmetric grid.picks grid.warp_limit q p ∙ w.1)))
    (or_cases (p == q && ends_near grid c d) (c == d && picks_near grid p q) some)

-- a cell of a tile that passes a test
pub record PassingCell (grid : GridValue) (t : ℕ) (test : ℕ → ℕ → Bool) : Type 0 where
  pub c : ℕ
  pub p : ℕ
  pub c_low : c < grid.columns
  pub p_low : p < grid.picks
  pub of_tile : tile_of grid c p ≡ t
  pub passes : test c p ≡ true

pub any_cell_here : (grid : GridValue) (t : ℕ) (test : ℕ → ℕ → Bool) → PassingCell grid t test → any_cell grid t test ≡ true
unfolding any_cell
any_cell_here grid t test w =
    any_here (λ p. any_below (λ c. tile_of grid c p == t && test c p) grid.columns) grid.picks w.p w.p_low
    (any_here (λ c. tile_of grid c w.p == t && test c w.p) grid.columns w.c w.c_low
    (and_from (tile_of grid w.c w.p == t) (test w.c w.p) (eq-eqb (tile_of grid w.c w.p) t w.of_tile) w.passes))

pub any_cell_witness : (grid : GridValue) (t : ℕ) (test : ℕ → ℕ → Bool) → any_cell grid t test ≡ true → PassingCell grid t test
unfolding any_cell
any_cell_witness grid t test some =
    let row = any_witness (λ p. any_below (λ c. tile_of grid c p == t && test c p) grid.columns) grid.picks some in
    let cell = any_witness (λ c. tile_of grid c row.0 == t && test c row.0) grid.columns row.2 in
    let both = and_parts (tile_of grid cell.0 row.0 == t) (test cell.0 row.0) cell.2 in
    record { c = cell.0; p = row.0; c_low = cell.1; p_low = row.1; of_tile = eqb-true (tile_of grid cell.0 row.0) t both.0; passes = both.1 }

-- ---- tiles

-- a cell of t and a cell of u that are near one another
pub record NearCells (grid : GridValue) (t u : ℕ) : Type 0 where
  pub c : ℕ
  pub p : ℕ
  pub d : ℕ
  pub q : ℕ
  pub c_low : c < grid.columns
  pub p_low : p < grid.picks
  pub d_low : d < grid.columns
  pub q_low : q < grid.picks
  pub of_t : tile_of grid c p ≡ t
  pub of_u : tile_of grid d q ≡ u
  pub close : cells_near grid c p d q ≡ true

pub near_by_cells : (grid : GridValue) (t u : ℕ) → NearCells grid t u → near grid t u ≡ true
unfolding near
near_by_cells grid t u w =
    or_right (t == u) (any_cell grid t (λ c p. any_cell grid u (cells_near grid c p)))
    (any_cell_here grid t (λ c p. any_cell grid u (cells_near grid c p)) (record {
      c = w.c;
      p = w.p;
      c_low = w.c_low;
      p_low = w.p_low;
      of_tile = w.of_t;
      passes = any_cell_here grid u (cells_near grid w.c w.p) (record { c = w.d; p = w.q; c_low = w.d_low; p_low = w.q_low; of_tile = w.of_u; passes = w.close });
    }))

pub near_itself : (grid : GridValue) (t u : ℕ) → t ≡ u → near grid t u ≡ true
unfolding near
near_itself grid t u same = or_left (t == u) (any_cell grid t (λ c p. any_cell grid u (cells_near grid c p))) (eq-eqb t u same)

pub near_cases : (grid : GridValue) (t u : ℕ) → near grid t u ≡ true → (t ≡ u) ⊎ NearCells grid t u
unfolding near
near_cases grid t u some = ⊎_elim
    (λ (same : (t == u) ≡ true). inl (eqb-true t u same))
    (λ (cells : any_cell grid t (λ c p. any_cell grid u (cells_near grid c p)) ≡ true).
    let one = any_cell_witness grid t (λ c p. any_cell grid u (cells_near grid c p)) cells in
    let other = any_cell_witness grid u (cells_near grid one.c one.p) one.passes in
    inr (record {
      c = one.c;
      p = one.p;
      d = other.c;
      q = other.p;
      c_low = one.c_low;
      p_low = one.p_low;
      d_low = other.c_low;
      q_low = other.p_low;
      of_t = one.of_tile;
      of_u = other.of_tile;
      close = other.passes;
    }))
    (or_cases (t == u) (any_cell grid t (λ c p. any_cell grid u (cells_near grid c p))) some)

near_turned : (grid : GridValue) (t u : ℕ) → near grid t u ≡ true → near grid u t ≡ true
near_turned grid t u some = ⊎_elim
    (λ (same : t ≡ u). near_itself grid u t (sym same))
    (λ (w : NearCells grid t u). near_by_cells grid u t (record {
      c = w.d;
      p = w.q;
      d = w.c;
      q = w.p;
      c_low = w.d_low;
      p_low = w.q_low;
      d_low = w.c_low;
      q_low = w.p_low;
      of_t = w.of_u;
      of_u = w.of_t;
      close = cells_turned grid w.c w.p w.d w.q w.close;
    }))
    (near_cases grid t u some)

pub near-symmetric : (grid : GridValue) (t u : ℕ) → near grid t u ≡ near grid u t
near-symmetric grid t u = true_together (near grid t u) (near grid u t) (near_turned grid t u) (near_turned grid u t)
