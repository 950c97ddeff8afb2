-- The flags of tiles, pick by pick.
use Rattle.std.proofs.Common.{◌≡◌, ◌≢◌, ◌+◌, ◌-◌, ◌*◌, ◌/◌, ◌^◌, ◌<◌, ◌≤◌, ◌==◌, ◌&&◌, ◌||◌, ℕ, suc, Bool, List, true, false, length, get_or, set, sym, ap, ◌∙◌, ⊎_elim, eqb-true, eq-eqb, arith, get_or-set_same, get_or-set_other}
use Rattle.std.proofs.Math.Nat.{div-mul-le_self, lt-div-mul-add}
use Rattle.std.proofs.lemmas.Nat.{div-mul-add}
use Rattle.std.proofs.lemmas.Bool.{cases_eq, cases_lt, and_from, and_parts, both_ways, or_right}
use Rattle.std.proofs.lemmas.List.{get_or_past}
use Rattle.mill_base.specs.Below.{any_below}
use Rattle.mill_base.specs.Firsts.{IsFirstTrue}
use Rattle.mill_base.specs.Grids.{GridCells}
use Rattle.mill_base.proofs.lemmas.Belows.{any_here, any_witness, any_alike, true_together}
use Rattle.point_paper.specs.Papers.{BitCells}
use Rattle.draft_model.specs.declared.design.Design.{Design}
use Rattle.draft_model.specs.Drawdowns.{column_long}
use Rattle.tile_grid.specs.Tiles.{GridValue, IsTileGrid, across, tile_at, tile_of, tiles}
use Rattle.tile_grid.specs.Near.{any_cell}
use Rattle.tile_grid.proofs.lemmas.Tiles.{tile_there, tiles_few}
use Rattle.tile_rebuild.specs.Tiles.{grid_of, has_long}
use Rattle.tile_rebuild.specs.inner.Passes.{any_in_pick, grid_long}

-- ---- along one pick

-- a cell of a pick is true and of a tile
abbrev pub is_hit : GridValue → ℕ → ℕ → List Bool → ℕ → Bool
is_hit grid tile pick long c = tile_of grid c pick == tile && get_or long c false

-- the columns from one on to the edge of its tile are of one tile
same_tile : (grid : GridValue) (column c pick : ℕ) → column ≤ c → c < (column / grid.side + 1) * grid.side → tile_of grid c pick ≡ tile_of grid column pick
unfolding tile_of
same_tile grid column c pick from below =
    let i = column / grid.side in
    let start = div-mul-le_self column grid.side in
    let next : (i + 1) * grid.side ≡ i * grid.side + grid.side = grind arith in
    let place : i * grid.side + (c - i * grid.side) ≡ c = omega arith in
    let same : c / grid.side ≡ i = ap (λ n. n / grid.side) (sym place) ∙ div-mul-add i grid.side (c - i * grid.side) (omega arith) in
    ap (λ j. tile_at grid j (pick / grid.side)) same

-- the number of a tile by its tile column and tile row
pub tile_number : (grid : GridValue) (column pick n : ℕ) → n ≡ across grid → pick / grid.side * n + column / grid.side ≡ tile_of grid column pick
unfolding tile_of
tile_number grid column pick n is = ap (λ m. pick / grid.side * m + column / grid.side) is

-- and that number is no great one
pub numbers_few : (grid : GridValue) (column pick n : ℕ) → IsTileGrid grid → column < grid.columns → pick < grid.picks → n ≡ across grid
    → (pick / grid.side * n + column / grid.side < 2 ^ 25) × (pick / grid.side * n + column / grid.side < tiles grid)
numbers_few grid column pick n is hc hp e =
    let number = tile_number grid column pick n e in
    let there = tile_there grid column pick is hc hp in
    let few = tiles_few grid is in
    (omega arith, omega arith)

-- the edge of a tile lies past each of its columns
pub past_column : (side column : ℕ) → 0 < side → column < (column / side + 1) * side
past_column side column some =
    let whole = lt-div-mul-add {a = column} {b = side} some in
    let next : (column / side + 1) * side ≡ column / side * side + side = grind arith in
    omega arith

-- other tiles have no cell from the one first true position to the edge of its tile
others_stay : (grid : GridValue) (long : List Bool) (pick from column next tile : ℕ) → IsFirstTrue long from column → column < next → next ≡ (column / grid.side + 1) * grid.side
    → tile ≢ tile_of grid column pick → any_below (is_hit grid tile pick long) next ≡ any_below (is_hit grid tile pick long) from
others_stay grid long pick from column next tile first past edge off =
    let hit = is_hit grid tile pick long in
    true_together (any_below hit next) (any_below hit from)
    (λ some.
    let w = any_witness hit next some in
    let both = and_parts (tile_of grid w.0 pick == tile) (get_or long w.0 false) w.2 in
    ⊎_elim
    (λ (low : w.0 < from). any_here hit from w.0 low w.2)
    (λ (high : from ≤ w.0). ⊎_elim
    (λ (before : w.0 < column). absurd (both_ways (get_or long w.0 false) (first.before w.0 high before) both.1))
    (λ (after : column ≤ w.0).
    absurd (off (sym (eqb-true (tile_of grid w.0 pick) tile both.0) ∙ same_tile grid column w.0 pick after (let h = w.1 in omega (arith, edge)))))
    (cases_lt w.0 column))
    (cases_lt w.0 from))
    (λ some.
    let w = any_witness hit from some in
    any_here hit next w.0 (let h = w.1 in let k = first.ahead in omega arith) w.2)

-- the flags after one more true position
pub flag_more : (grid : GridValue) (long old flags : List Bool) (pick from column next at tile : ℕ) → IsFirstTrue long from column → column < next → next ≡ (column / grid.side + 1) * grid.side
    → at ≡ tile_of grid column pick → tile < length flags
    → get_or flags tile false ≡ (get_or old tile false || any_below (is_hit grid tile pick long) from)
    → get_or (set flags at true) tile false ≡ (get_or old tile false || any_below (is_hit grid tile pick long) next)
flag_more grid long old flags pick from column next at tile first past edge place there before = ⊎_elim
    (λ (here : tile ≡ at).
    ap (λ k. get_or (set flags at true) k false) here
    ∙ get_or-set_same flags at true false (let h = there in omega (arith, here))
    ∙ sym (or_right (get_or old tile false) (any_below hit next)
    (any_here hit next column past (and_from (tile_of grid column pick == tile) (get_or long column false) (eq-eqb (tile_of grid column pick) tile (sym (here ∙ place))) first.here))))
    (λ (off : tile ≢ at).
    get_or-set_other flags at tile true false off ∙ before
    ∙ ap (λ b. get_or old tile false || b) (sym (others_stay grid long pick from column next tile first past edge (λ same. off (same ∙ sym place)))))
    (cases_eq tile at)
  where
    hit : ℕ → Bool
    hit = is_hit grid tile pick long

-- past the last true position there is none
pub flag_last : (grid : GridValue) (long : List Bool) (pick from n tile : ℕ) → length long ≡ n → ((k : ℕ) → from ≤ k → get_or long k false ≡ false)
    → any_below (is_hit grid tile pick long) from ≡ any_below (is_hit grid tile pick long) n
flag_last grid long pick from n tile size none =
    let hit = is_hit grid tile pick long in
    true_together (any_below hit from) (any_below hit n)
    (λ some.
    let w = any_witness hit from some in
    let both = and_parts (tile_of grid w.0 pick == tile) (get_or long w.0 false) w.2 in
    ⊎_elim
    (λ (low : w.0 < n). any_here hit n w.0 low w.2)
    (λ (high : n ≤ w.0). absurd (both_ways (get_or long w.0 false) (get_or_past long w.0 false (omega (arith, size))) both.1))
    (cases_lt w.0 n))
    (λ some.
    let w = any_witness hit n some in
    let both = and_parts (tile_of grid w.0 pick == tile) (get_or long w.0 false) w.2 in
    ⊎_elim
    (λ (low : w.0 < from). any_here hit from w.0 low w.2)
    (λ (high : from ≤ w.0). absurd (both_ways (get_or long w.0 false) (none w.0 high) both.1))
    (cases_lt w.0 from))

-- ---- pick by pick

pub in_pick_alike : (design : Design) (tile p : ℕ) (one other : ℕ → Bool) → ((c : ℕ) → c < design.size.columns → one c ≡ other c) → any_in_pick design tile p one ≡ any_in_pick design tile p other
in_pick_alike design tile p one other same =
    any_alike (λ c. tile_of (grid_of design) c p == tile && one c) (λ c. tile_of (grid_of design) c p == tile && other c) design.size.columns
    (λ c h. ap (λ b. tile_of (grid_of design) c p == tile && b) (same c h))

-- one more number passes, or one did before
pub any_next : (p : ℕ → Bool) (n : ℕ) → any_below p (n + 1) ≡ (any_below p n || p n)
any_next p n = let e : suc n ≡ n + 1 = omega arith in ap (any_below p) (sym e)

-- the flags of all picks are those of the paper
pub flags_are : (design : Design) (bits : BitCells) (raw : GridCells) (tile : ℕ)
    → ((c p : ℕ) → c < design.size.columns → p < design.size.picks → grid_long design raw c p ≡ column_long design bits c p)
    → any_below (λ p. any_in_pick design tile p (λ c. grid_long design raw c p)) design.size.picks ≡ has_long design bits tile
unfolding has_long any_cell
flags_are design bits raw tile same =
    any_alike (λ p. any_in_pick design tile p (λ c. grid_long design raw c p)) (λ p. any_in_pick design tile p (λ c. column_long design bits c p)) design.size.picks
    (λ p hp. in_pick_alike design tile p (λ c. grid_long design raw c p) (λ c. column_long design bits c p) (λ c hc. same c p hc hp))
