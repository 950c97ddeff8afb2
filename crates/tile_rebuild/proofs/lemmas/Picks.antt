-- One pick of a part: which of its cells are long, and how it is bound.
use Rattle.std.proofs.Common.{◌≡◌, ◌+◌, ◌-◌, ◌<◌, ◌≤◌, ◌||◌, ℕ, suc, nat_lt, Bool, false, List, length, get_or, sym, ap, refl, ◌∙◌, ⊎_elim, arith}
use Rattle.std.specs.Prelude.{slice_index}
use Rattle.std.proofs.lemmas.Bool.{both_ways, or_from, lt-ltb, ltb-true, cases_lt}
use Rattle.mill_base.specs.Below.{any_below}
use Rattle.mill_base.specs.Firsts.{IsFirstTrue}
use Rattle.mill_base.specs.Grids.{GridCells, grid_cell, grid_row}
use Rattle.mill_base.specs.Lines.{line_by}
use Rattle.mill_base.proofs.lemmas.Belows.{any_here, any_witness, any_alike, true_together}
use Rattle.mill_base.proofs.lemmas.Lines.{length-line_by, get_or-line_by}
use Rattle.weave_book.specs.Weaves.{mark}
use Rattle.weave_book.specs.declared.weaves.Weave.{Weave}
use Rattle.binder_marks.specs.Bound.{bound_cell, bound_line, bound_at}
use Rattle.draft_model.specs.declared.design.Design.{Design}
use Rattle.draft_model.specs.Designs.{Fits}
use Rattle.draft_model.specs.Cells.{is_weft_long, bound_by}
use Rattle.draft_model.proofs.lemmas.LongCells.{long_cell_alike}
use Rattle.tile_rebuild.specs.declared.part.Part.{Part}
use Rattle.tile_rebuild.specs.inner.Cells.{AreColumnsLong, is_long_in}
use Rattle.tile_rebuild.proofs.lemmas.Rebuilt.{long_joined}

-- where none passes below a number, nor the number itself
pub none_more : (p : ℕ → Bool) (n : ℕ) → any_below p n ≡ false → p n ≡ false → any_below p (n + 1) ≡ false
none_more p n none here = let e : suc n ≡ n + 1 = omega arith in ap (any_below p) (sym e) ∙ or_from (any_below p n) (p n) none here

-- the first true position is within so many positions exactly where some of them is true
pub first_within : (row : List Bool) (from count k : ℕ) → IsFirstTrue row from k → nat_lt (k - from) count ≡ any_below (λ a. get_or row (from + a) false) count
first_within row from count k is =
    let test = λ (a : ℕ). get_or row (from + a) false in
    let place : from + (k - from) ≡ k = let h = is.ahead in omega arith in
    true_together (nat_lt (k - from) count) (any_below test count)
    (λ low. any_here test count (k - from) (ltb-true (k - from) count low) (ap (λ n. get_or row n false) place ∙ is.here))
    (λ some.
    let w = any_witness test count some in
    let low = w.1 in
    ⊎_elim
    (λ (before : from + w.0 < k). absurd (both_ways (test w.0) (is.before (from + w.0) (omega arith) before) w.2))
    (λ (past : k ≤ from + w.0). lt-ltb (k - from) count (omega arith))
    (cases_lt (from + w.0) k))

-- the long cells of a pick, once the pick was marked
pub pick_marked : (design : Design) (part : Part) (picks hits : GridCells) (row long : List Bool) (up : ℕ → ℕ → Bool) (b : ℕ) → row ≡ grid_row picks b
    → ((a : ℕ) → a < part.width → get_or long (part.column + a) false
    ≡ (any_below (is_weft_long design (λ x. get_or row x false) (part.column + a)) (length design.tie.ends) || grid_cell hits a b))
    → AreColumnsLong design part up hits → b < part.height
    → any_below (λ a. get_or long (part.column + a) false) part.width ≡ any_below (λ a. is_long_in design part (λ j x. grid_cell picks x j) up a b) part.width
pick_marked design part picks hits row long up b is each columns hb =
    any_alike (λ a. get_or long (part.column + a) false) (λ a. is_long_in design part (λ j x. grid_cell picks x j) up a b) part.width
    (λ a h. long_joined design (λ x. grid_cell picks x b) (up a) (part.column + a) (part.pick + b) (get_or long (part.column + a) false) (grid_cell hits a b)
    (each a h ∙ ap (λ (xs : List Bool). any_below (is_weft_long design (λ x. get_or xs x false) (part.column + a)) (length design.tie.ends) || grid_cell hits a b) is)
    (columns a b h hb))

pub length-bound_line : (raw long raise sink out : List Bool) → out ≡ bound_line raw long raise sink → length out ≡ length raw
unfolding bound_line
length-bound_line raw long raise sink out is = ap length is ∙ length-line_by (length raw) (bound_at raw long raise sink)

pub length-marks : (weave : Weave) (n pick : ℕ) (out : List Bool) → out ≡ line_by n (λ c. mark weave c pick) → length out ≡ n
length-marks weave n pick out is = ap length is ∙ length-line_by n (λ c. mark weave c pick)

marks_at : (weave : Weave) (n pick k : ℕ) (out : List Bool) → out ≡ line_by n (λ c. mark weave c pick) → k < n → get_or out k false ≡ mark weave k pick
marks_at weave n pick k out is h = ap (λ (xs : List Bool). get_or xs k false) is ∙ get_or-line_by n (λ c. mark weave c pick) k false h

-- a bound cell, from the rows of the marks
pub bound_by_rows : (design : Design) (raw long raise sink : List Bool) (n m pick k : ℕ) → raise ≡ line_by n (λ c. mark design.raise c pick) → sink ≡ line_by m (λ c. mark design.sink c pick)
    → k < n → k < m → bound_at raw long raise sink k ≡ bound_cell (get_or raw k false) (get_or long k false) (mark design.raise k pick) (mark design.sink k pick)
bound_by_rows design raw long raise sink n m pick k raised sunk hn hm =
    ap (λ b. bound_cell (get_or raw k false) (get_or long k false) b (get_or sink k false)) (marks_at design.raise n pick k raise raised hn)
    ∙ ap (λ b. bound_cell (get_or raw k false) (get_or long k false) (mark design.raise k pick) b) (marks_at design.sink m pick k sink sunk hm)

-- a bound cell is that of the part's lines
pub bound_in_pick : (design : Design) (part : Part) (along up : ℕ → ℕ → Bool) (hits : GridCells) (raw : List Bool) (cell long : Bool) (a b : ℕ) → Fits design
    → ((x : ℕ) → x < design.size.columns → get_or raw x false ≡ along b x)
    → long ≡ (any_below (is_weft_long design (λ x. get_or raw x false) (part.column + a)) (length design.tie.ends) || grid_cell hits a b)
    → AreColumnsLong design part up hits → a < part.width → b < part.height → part.column + a < design.size.columns
    → cell ≡ bound_cell (get_or raw (part.column + a) false) long (mark design.raise (part.column + a) (part.pick + b)) (mark design.sink (part.column + a) (part.pick + b))
    → cell ≡ bound_by design (along b) (up a) (part.column + a) (part.pick + b)
bound_in_pick design part along up hits raw cell long a b fits reads marked columns ha hb hc is =
    let column = part.column + a in
    let pick = part.pick + b in
    let row = λ (x : ℕ). get_or raw x false in
    let all = long_joined design row (up a) column pick long (grid_cell hits a b) marked (columns a b ha hb)
    ∙ long_cell_alike design row (along b) (up a) (up a) column pick (λ x h. reads (slice_index design.tie.ends x) (fits.tied x 0 h)) (λ y h. refl) in
    is ∙ ap (λ v. bound_cell v long (mark design.raise column pick) (mark design.sink column pick)) (reads column hc)
    ∙ ap (λ v. bound_cell (along b column) v (mark design.raise column pick) (mark design.sink column pick)) all
