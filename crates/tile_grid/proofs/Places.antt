-- The places of near tiles, and the tiles of near cells.
use Rattle.std.proofs.Common.{◌≡◌, ◌≢◌, ℕ, ◌+◌, ◌<◌, ◌≤◌, ◌==◌, Bool, true, ◌&&◌, cond, length, refl, ⊎_elim, eq-eqb, arith}
use Rattle.std.specs.Prelude.{slice_index}
use Rattle.std.proofs.lemmas.Bool.{cases_eq, cases_lt, cond-true, or_left, or_right, and_from}
use Rattle.mill_base.specs.Below.{count_below}
use Rattle.mill_base.proofs.lemmas.Belows.{count_next}
use Rattle.tile_grid.specs.Tiles.{GridValue, IsTileGrid, tile_of, tiles}
use Rattle.tile_grid.specs.Near.{is_near, ends_near, picks_near, cells_near, near, IsNearAt}
use Rattle.tile_grid.proofs.Counts.{count_grows}
use Rattle.tile_grid.proofs.lemmas.Near.{kinds_near_here, near_by_cells}

-- where a number passes, so many more pass up to any greater bound
counts_itself : (f : ℕ → Bool) (u n : ℕ) → u < n → f u ≡ true → count_below f u < count_below f n
counts_itself f u n low on =
    let next = count_next f u (u + 1) refl in
    let one : cond {A = ℕ} (f u) 1 0 ≡ 1 = cond-true (f u) 1 0 on in
    let more = count_grows f (u + 1) n (omega arith) in
    omega arith

pub place_there : (grid : GridValue) (t u : ℕ) → u < tiles grid → near grid t u ≡ true → count_below (near grid t) u < count_below (near grid t) (tiles grid)
place_there grid t u low on = counts_itself (near grid t) u (tiles grid) low on

pub one_place : (grid : GridValue) (t k u v : ℕ) → IsNearAt grid t k u → IsNearAt grid t k v → u ≡ v
one_place grid t k u v one other = ⊎_elim
    (λ (same : u ≡ v). same)
    (λ (apart : u ≢ v). ⊎_elim
    (λ (low : u < v). absurd (let more = counts_itself (near grid t) u v low one.here in let a = one.before in let b = other.before in omega arith))
    (λ (high : v ≤ u). absurd (let more = counts_itself (near grid t) v u (omega arith) other.here in let a = one.before in let b = other.before in omega arith))
    (cases_lt u v))
    (cases_eq u v)

pub near_of_cells : (grid : GridValue) (c p d q : ℕ) → c < grid.columns → p < grid.picks → d < grid.columns → q < grid.picks → cells_near grid c p d q ≡ true → near grid (tile_of grid c p) (tile_of grid d q) ≡ true
near_of_cells grid c p d q hc hp hd hq close =
    near_by_cells grid (tile_of grid c p) (tile_of grid d q) (record { c = c; p = p; d = d; q = q; c_low = hc; p_low = hp; d_low = hd; q_low = hq; of_t = refl; of_u = refl; close = close })

pub near_of_ends : (grid : GridValue) (e f p : ℕ) → IsTileGrid grid → e < length grid.tie → f < length grid.tie → p < grid.picks → is_near (length grid.tie) grid.weft_limit e f ≡ true
    → near grid (tile_of grid (slice_index grid.tie e) p) (tile_of grid (slice_index grid.tie f) p) ≡ true
near_of_ends grid e f p is he hf hp close =
    let c = slice_index grid.tie e in
    let d = slice_index grid.tie f in
    near_of_cells grid c p d p (is.tied e 0 he) hp (is.tied f 0 hf) hp
    (or_left (p == p && ends_near grid c d) (c == d && picks_near grid p p) (and_from (p == p) (ends_near grid c d) (eq-eqb p p refl)
    (kinds_near_here (length grid.tie) grid.weft_limit (slice_index grid.tie) c d (record { x = e; y = f; x_low = he; y_low = hf; x_kind = refl; y_kind = refl; close = close }))))

pub near_of_picks : (grid : GridValue) (c p q : ℕ) → c < grid.columns → p < grid.picks → q < grid.picks → is_near grid.picks grid.warp_limit p q ≡ true → near grid (tile_of grid c p) (tile_of grid c q) ≡ true
near_of_picks grid c p q hc hp hq close =
    near_of_cells grid c p c q hc hp hc hq (or_right (p == q && ends_near grid c c) (c == c && picks_near grid p q) (and_from (c == c) (picks_near grid p q) (eq-eqb c c refl) close))
