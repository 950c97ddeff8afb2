-- Sets of tiles after a call.
use Rattle.std.proofs.Common.{◌≡◌, ◌≢◌, ◌⊎◌, inl, inr, ℕ, ◌+◌, ◌*◌, ◌/◌, ◌%◌, ◌<◌, ◌≤◌, ◌==◌, Bool, true, false, ◌&&◌, ◌||◌, List, length, get_or, set, get_or-set_same, get_or-set_other, nat_lt, refl, sym, ap, ◌∙◌, ⊎_elim, suc, arith, eq-eqb, ne_eqb, eqb-true}
use Rattle.std.proofs.Math.Nat.{suc-mul, mul-le-mul_right}
use Rattle.std.proofs.lemmas.Bool.{cases_eq, cases_lt, and_from, and_left, and_right, or_right, lt-ltb, le-ltb}
use Rattle.std.proofs.lemmas.Nat.{div-mul-add, mod-mul-add, div-add-mod', mod_below}
use Rattle.mill_base.specs.Firsts.{IsFirstTrue}
use Rattle.mill_base.specs.Lines.{line_by}
use Rattle.mill_base.specs.Stretches.{IsLaid}
use Rattle.mill_base.proofs.lemmas.Lines.{get_or-line_by, length-line_by, line_is}
use Rattle.tile_grid.specs.Near.{near, near_columns, near_rows}
use Rattle.tile_grid.specs.Tiles.{GridValue, IsTileGrid, across, down, tiles, tile_column, tile_row}
use Rattle.tile_grid.proofs.lemmas.Near.{near_itself}
use Rattle.tile_grid.proofs.lemmas.Splits.{near_is_split}
use Rattle.tile_grid.proofs.lemmas.Tiles.{column_there, row_there}
use Rattle.tile_marks.specs.Marks.{with_near}

-- the tiles of a tile column that were added so far: those below row `from`
abbrev pub so_far : List Bool → List Bool → ℕ → ℕ → ℕ → ℕ → Bool
so_far old rows n column from u = get_or old u false || (column == u % n && (nat_lt (u / n) from && get_or rows (u / n) false))

or_nothing : (a : Bool) → a ≡ (a || false)
or_nothing true = refl
or_nothing false = refl

pub none_so_far : (old rows : List Bool) (n column u : ℕ) → get_or old u false ≡ so_far old rows n column 0 u
none_so_far old rows n column u =
    or_nothing (get_or old u false)
    ∙ ap (λ t. get_or old u false || t) (sym (and_right (column == u % n) (nat_lt (u / n) 0 && get_or rows (u / n) false) (and_left (nat_lt (u / n) 0) (get_or rows (u / n) false) (le-ltb (u / n) 0 (omega arith)))))

-- another tile than that of the row: nothing new below the next row
kept_so_far : (old rows : List Bool) (n column from row u : ℕ) → 0 < n → IsFirstTrue rows from row → u ≢ row * n + column → so_far old rows n column from u ≡ so_far old rows n column (row + 1) u
kept_so_far old rows n column from row u some first apart = ap (λ t. get_or old u false || t) (⊎_elim
    (λ (off : (column == u % n) ≡ false). and_left (column == u % n) (nat_lt (u / n) from && get_or rows (u / n) false) off ∙ sym (and_left (column == u % n) (nat_lt (u / n) (row + 1) && get_or rows (u / n) false) off))
    (λ (on : (column == u % n) ≡ true). ap (λ t. (column == u % n) && t) (same (eqb-true column (u % n) on)))
    (flipped (column == u % n)))
  where
    flipped : (b : Bool) → (b ≡ false) ⊎ (b ≡ true)
    flipped true = inr refl
    flipped false = inl refl

    same : column ≡ u % n → (nat_lt (u / n) from && get_or rows (u / n) false) ≡ (nat_lt (u / n) (row + 1) && get_or rows (u / n) false)
    same is =
        let whole : u / n * n + u % n ≡ u = div-add-mod' u n in
        let ahead = first.ahead in
        ⊎_elim
        (λ (low : u / n < from). ap (λ t. t && get_or rows (u / n) false) (lt-ltb (u / n) from low ∙ sym (lt-ltb (u / n) (row + 1) (omega arith))))
        (λ (late : from ≤ u / n). ⊎_elim
        (λ (before : u / n < row). and_right (nat_lt (u / n) from) (get_or rows (u / n) false) (first.before (u / n) late before) ∙ sym (and_right (nat_lt (u / n) (row + 1)) (get_or rows (u / n) false) (first.before (u / n) late before)))
        (λ (past : row ≤ u / n).
        let off : u / n ≢ row = λ (e : u / n ≡ row). apart (sym whole ∙ ap (λ r. r * n + u % n) e ∙ ap (λ c. row * n + c) (sym is)) in
        ap (λ t. t && get_or rows (u / n) false) (le-ltb (u / n) from late ∙ sym (le-ltb (u / n) (row + 1) (omega arith))))
        (cases_lt (u / n) row))
        (cases_lt (u / n) from)

-- one more tile of the column
pub more_so_far : (old mid new rows : List Bool) (n column from row m : ℕ) → 0 < n → column < n → m ≡ length old → length mid ≡ m → m ≡ n * length rows → IsFirstTrue rows from row
    → ((u : ℕ) → u < m → get_or mid u false ≡ so_far old rows n column from u) → new ≡ set mid (row * n + column) true
    → (u : ℕ) → u < m → get_or new u false ≡ so_far old rows n column (row + 1) u
more_so_far old mid new rows n column from row m some low long wide all first before is u h = ⊎_elim
    (λ (here : u ≡ row * n + column).
    let in_row : (row * n + column) / n ≡ row = div-mul-add row n column low in
    let in_column : (row * n + column) % n ≡ column = mod-mul-add row n column low in
    ap (λ xs. get_or xs u false) is ∙ ap (λ k. get_or (set mid (row * n + column) true) k false) here ∙ get_or-set_same mid (row * n + column) true false (omega (arith, h, here, wide))
    ∙ sym (or_right (get_or old u false) (column == u % n && (nat_lt (u / n) (row + 1) && get_or rows (u / n) false))
    (and_from (column == u % n) (nat_lt (u / n) (row + 1) && get_or rows (u / n) false) (eq-eqb column (u % n) (sym (ap (λ k. k % n) here ∙ in_column)))
    (and_from (nat_lt (u / n) (row + 1)) (get_or rows (u / n) false) (lt-ltb (u / n) (row + 1) (let e : u / n ≡ row = ap (λ k. k / n) here ∙ in_row in omega arith))
    (ap (λ k. get_or rows k false) (ap (λ k. k / n) here ∙ in_row) ∙ first.here)))))
    (λ (apart : u ≢ row * n + column).
    ap (λ xs. get_or xs u false) is ∙ get_or-set_other mid (row * n + column) u true false apart ∙ before u h ∙ kept_so_far old rows n column from row u some first apart)
    (cases_eq u (row * n + column))

-- no further row: all tiles of the column were added
pub all_so_far : (old rows : List Bool) (n column from u : ℕ) → ((k : ℕ) → from ≤ k → get_or rows k false ≡ false)
    → so_far old rows n column from u ≡ (get_or old u false || (column == u % n && get_or rows (u / n) false))
all_so_far old rows n column from u none = ap (λ t. get_or old u false || (column == u % n && t)) (⊎_elim
    (λ (low : u / n < from). ap (λ t. t && get_or rows (u / n) false) (lt-ltb (u / n) from low))
    (λ (late : from ≤ u / n). and_right (nat_lt (u / n) from) (get_or rows (u / n) false) (none (u / n) late) ∙ sym (none (u / n) late))
    (cases_lt (u / n) from))

-- ---- the near tiles

-- the tiles of a row of tiles, after those of some tile columns were added
pub row_joined : (old new columns : List Bool) (n row : ℕ) → 0 < n → length columns ≡ n
    → IsLaid old (row * n) n (λ i. get_or old (row * n + i) false || get_or columns (0 + i) false) new
    → (u : ℕ) → get_or new u false ≡ (get_or old u false || (row == u / n && get_or columns (u % n) false))
row_joined old new columns n row some wide laid u =
    let whole : u / n * n + u % n ≡ u = div-add-mod' u n in
    let within : u % n < n = mod_below u n some in
    ⊎_elim
    (λ (same : row ≡ u / n).
    let place : row * n + u % n ≡ u = ap (λ r. r * n + u % n) same ∙ whole in
    let e : 0 + u % n ≡ u % n = omega arith in
    ap (λ k. get_or new k false) (sym place) ∙ laid.here (u % n) within
    ∙ ap (λ k. get_or old k false || get_or columns (0 + u % n) false) place
    ∙ ap (λ k. get_or old u false || get_or columns k false) e
    ∙ ap (λ t. get_or old u false || (t && get_or columns (u % n) false)) (sym (eq-eqb row (u / n) same)))
    (λ (apart : row ≢ u / n).
    outside apart whole within ∙ or_nothing (get_or old u false) ∙ ap (λ t. get_or old u false || (t && get_or columns (u % n) false)) (sym (ne_eqb row (u / n) apart)))
    (cases_eq row (u / n))
  where
    outside : row ≢ u / n → u / n * n + u % n ≡ u → u % n < n → get_or new u false ≡ get_or old u false
    outside apart whole within = ⊎_elim
        (λ (low : u / n < row). laid.below u (let up : u / n * n + n ≤ row * n = steps (u / n) row n low in omega arith))
        (λ (high : row ≤ u / n). laid.past u (let up : row * n + n ≤ u / n * n = steps row (u / n) n (let f : row ≢ u / n = apart in omega arith) in omega arith))
        (cases_lt (u / n) row)
      where
        steps : (a b n : ℕ) → a < b → a * n + n ≤ b * n
        steps a b n h = omega (arith, suc-mul a n, mul-le-mul_right {m = suc a} {n = b} n (omega arith))

or_swapped : (a b c : Bool) → ((a || b) || c) ≡ (a || (b || c))
or_swapped true b c = refl
or_swapped false b c = refl

-- the set with the near tiles of a tile
pub near_joined : (grid : GridValue) (t w column row : ℕ) (old mid new columns rows : List Bool) → IsTileGrid grid → length old ≡ tiles grid → t < tiles grid
    → w ≡ across grid → column ≡ t % w → row ≡ t / w
    → columns ≡ line_by (across grid) (near_columns grid column) → rows ≡ line_by (down grid) (near_rows grid row)
    → ((u : ℕ) → get_or mid u false ≡ (get_or old u false || (row == u / w && get_or columns (u % w) false)))
    → length new ≡ length old
    → ((u : ℕ) → u < length old → get_or new u false ≡ (get_or mid u false || (column == u % w && get_or rows (u / w) false)))
    → new ≡ with_near grid t old
unfolding with_near
near_joined grid t w column row old mid new columns rows is long low wide column_is row_is are_columns are_rows first same_length second =
    line_is false new (length old) (λ u. get_or old u false || near grid t u) same_length
    (λ u h. second u h ∙ ap (λ b. b || (column == u % w && get_or rows (u / w) false)) (first u)
    ∙ or_swapped (get_or old u false) (row == u / w && get_or columns (u % w) false) (column == u % w && get_or rows (u / w) false)
    ∙ ap (λ b. get_or old u false || (b || (column == u % w && get_or rows (u / w) false))) (along u)
    ∙ ap (λ b. get_or old u false || ((tile_row grid t == tile_row grid u && near_columns grid (tile_column grid t) (tile_column grid u)) || b)) (up u (omega (arith, h, long)))
    ∙ ap (λ b. get_or old u false || b) (sym (near_is_split grid t u is low)))
  where
    column_of_t : column ≡ tile_column grid t
    column_of_t = column_is ∙ ap (λ n. t % n) wide

    row_of_t : row ≡ tile_row grid t
    row_of_t = row_is ∙ ap (λ n. t / n) wide

    along : (u : ℕ) → (row == u / w && get_or columns (u % w) false) ≡ (tile_row grid t == tile_row grid u && near_columns grid (tile_column grid t) (tile_column grid u))
    along u =
        ap (λ n. row == u / n && get_or columns (u % n) false) wide
        ∙ ap (λ xs. row == tile_row grid u && get_or xs (tile_column grid u) false) are_columns
        ∙ ap (λ b. row == tile_row grid u && b) (get_or-line_by (across grid) (near_columns grid column) (tile_column grid u) false (column_there grid u is))
        ∙ ap (λ r. r == tile_row grid u && near_columns grid column (tile_column grid u)) row_of_t
        ∙ ap (λ c. tile_row grid t == tile_row grid u && near_columns grid c (tile_column grid u)) column_of_t

    up : (u : ℕ) → u < tiles grid → (column == u % w && get_or rows (u / w) false) ≡ (tile_column grid t == tile_column grid u && near_rows grid (tile_row grid t) (tile_row grid u))
    up u there =
        ap (λ n. column == u % n && get_or rows (u / n) false) wide
        ∙ ap (λ xs. column == tile_column grid u && get_or xs (tile_row grid u) false) are_rows
        ∙ ap (λ b. column == tile_column grid u && b) (get_or-line_by (down grid) (near_rows grid row) (tile_row grid u) false (row_there grid u is there))
        ∙ ap (λ c. c == tile_column grid u && near_rows grid row (tile_row grid u)) column_of_t
        ∙ ap (λ r. tile_column grid t == tile_column grid u && near_rows grid r (tile_row grid u)) row_of_t

-- ---- the set with the near tiles

pub length-with_near : (grid : GridValue) (t : ℕ) (old : List Bool) → length (with_near grid t old) ≡ length old
unfolding with_near
length-with_near grid t old = length-line_by (length old) (λ u. get_or old u false || near grid t u)

pub get_or-with_near : (grid : GridValue) (t u : ℕ) (old : List Bool) → u < length old → get_or (with_near grid t old) u false ≡ (get_or old u false || near grid t u)
unfolding with_near
get_or-with_near grid t u old h = get_or-line_by (length old) (λ u. get_or old u false || near grid t u) u false h

pub itself_with_near : (grid : GridValue) (t : ℕ) (old : List Bool) → t < length old → get_or (with_near grid t old) t false ≡ true
itself_with_near grid t old h = get_or-with_near grid t t old h ∙ or_right (get_or old t false) (near grid t t) (near_itself grid t t refl)
