-- Walks over sets of tiles.
use Rattle.std.proofs.Common.{◌≡◌, ◌+◌, ◌*◌, ◌<◌, ◌≤◌, ◌&&◌, ◌||◌, ℕ, Bool, true, false, cond, List, length, get_or, set, replicate, count_by, inl, inr, refl, sym, ap, ◌∙◌, ⊎_elim, arith, add-one}
use Rattle.std.proofs.Math.Nat.{mul-le-mul_right}
use Rattle.std.proofs.lemmas.Bool.{cases_lt, both_ways, and_left}
use Rattle.std.proofs.lemmas.List.{ext_get_or, get_or-replicate, length-replicate}
use Rattle.std.proofs.lemmas.List.Sums.{sum_by-set}
use Rattle.mill_base.specs.Below.{any_below}
use Rattle.mill_base.specs.Firsts.{IsFirstTrue}
use Rattle.mill_base.proofs.lemmas.Belows.{any_here, any_witness, true_together}
use Rattle.tile_grid.specs.Near.{near}
use Rattle.tile_grid.specs.Tiles.{GridValue}
use Rattle.tile_marks.specs.Marks.{IsNext, NoneFrom}

-- numbers that fail add nothing
pub any_skipped : (p : ℕ → Bool) (from n : ℕ) → from ≤ n → ((i : ℕ) → from ≤ i → i < n → p i ≡ false) → any_below p n ≡ any_below p from
any_skipped p from n ahead none = true_together (any_below p n) (any_below p from)
    (λ some. let w = any_witness p n some in ⊎_elim
    (λ (low : w.0 < from). any_here p from w.0 low w.2)
    (λ (late : from ≤ w.0). absurd (both_ways (p w.0) (none w.0 late w.1) w.2))
    (cases_lt w.0 from))
    (λ some. let w = any_witness p from some in any_here p n w.0 (let h = w.1 in omega arith) w.2)

-- the tiles near a tile of a set, of which the first ones have been gone through
abbrev pub near_so_far : GridValue → List Bool → ℕ → ℕ → Bool
near_so_far grid of from u = any_below (λ t. get_or of t false && near grid t u) from

or_more : (a b c : Bool) → ((a || b) || c) ≡ (a || (b || c))
or_more true b c = refl
or_more false b c = refl

-- one tile of the set more
pub near_more : (grid : GridValue) (of : List Bool) (from tile u : ℕ) (before : Bool) → IsFirstTrue of from tile
    → ((before || near_so_far grid of from u) || near grid tile u) ≡ (before || near_so_far grid of (tile + 1) u)
near_more grid of from tile u before first =
    let p = λ (t : ℕ). get_or of t false && near grid t u in
    or_more before (any_below p from) (near grid tile u)
    ∙ ap (λ b. before || (b || near grid tile u))
    (sym (any_skipped p from tile first.ahead (λ i late below. and_left (get_or of i false) (near grid i u) (first.before i late below))))
    ∙ ap (λ b. before || (any_below p tile || b)) (sym (ap (λ b. b && near grid tile u) first.here))
    ∙ rw add-one refl

-- no tile of the set is left
pub near_whole : (grid : GridValue) (of : List Bool) (from n u : ℕ) → from ≤ n → NoneFrom of from → near_so_far grid of from u ≡ near_so_far grid of n u
near_whole grid of from n u ahead none =
    sym (any_skipped (λ t. get_or of t false && near grid t u) from n ahead (λ i late below. and_left (get_or of i false) (near grid i u) (none i late)))

-- ---- how many tiles a set has

-- one tile less
pub one_less : (marks : List Bool) (tile : ℕ) → tile < length marks → get_or marks tile false ≡ true → count_by (λ b. b) (set marks tile false) + 1 ≡ count_by (λ b. b) marks
one_less marks tile there here =
    let whole = sum_by-set (λ b. cond b 1 0) marks tile false false there in
    let one : cond {A = ℕ} (get_or marks tile false) 1 0 ≡ 1 = ap (λ b. cond {A = ℕ} b 1 0) here in
    omega arith

-- the next tile of a set is in it
pub next_marked : (marks : List Bool) (from tile : ℕ) → IsNext marks from tile → (tile < length marks) × (get_or marks tile false ≡ true)
next_marked marks from tile (inl first) = (first.within, first.here)
next_marked marks from tile (inr round) = (round.1.within, round.1.here)

-- a tile that was gone through takes its own steps of those that are left
pub less_left : (left before each steps after most : ℕ) → left + 1 ≡ before → after ≤ steps + each → steps + before * each ≤ most → after + left * each ≤ most
less_left left before each steps after most is more so_far =
    let whole : before * each ≡ left * each + each = ap (λ n. n * each) (sym is) ∙ one_times left each in
    omega arith
  where
    one_times : (n k : ℕ) → (n + 1) * k ≡ n * k + k
    one_times n k = grind arith

pub twice_most : (count side lines : ℕ) → count * (side * lines) ≤ count * (2 * side * lines)
twice_most count side lines = let e : count * (2 * side * lines) ≡ 2 * (count * (side * lines)) = grind arith in omega arith

-- one pass over the whole paper takes no more steps than the lines of so many tiles
pub whole_most : (cells least count each start after : ℕ) → after ≡ start + cells → cells ≤ least * each → least ≤ count → after ≤ start + count * each
whole_most cells least count each start after is few many = let h = mul-le-mul_right {m = least} {n = count} each many in omega arith

-- a list that is false everywhere
pub all_false : (xs : List Bool) (n : ℕ) → length xs ≡ n → ((u : ℕ) → u < n → get_or xs u false ≡ false) → xs ≡ replicate n false
all_false xs n long each =
    ext_get_or false xs (replicate n false) (long ∙ sym (length-replicate n false))
    (λ u h. let low : u < n = omega (arith, h, long) in each u low ∙ sym (get_or-replicate n u false false low))
