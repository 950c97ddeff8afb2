-- Which tiles spans touch.
use Rattle.std.proofs.Common.{◌≡◌, ◌+◌, ◌-◌, ◌*◌, ◌/◌, ◌<◌, ◌≤◌, ◌==◌, ◌&&◌, ◌||◌, ℕ, max, Bool, true, false, cond, List, [], ◌∷◌, length, get_or, drop, replicate, nat_lt, refl, sym, ap, subst, ◌∙◌, ⊎_elim, arith, eqb-true, eq-eqb}
use Rattle.std.specs.Prelude.{Option, Some, None, is_some, nat_le}
use Rattle.std.specs.Option.{option_or}
use Rattle.std.proofs.Math.Nat.{div-mul-le_self, mul-div_left}
use Rattle.std.proofs.lemmas.Bool.{cases_lt, and_from, and_parts, le-leb, leb-true, lt-ltb, ltb-true, or_cases, or_left, or_right}
use Rattle.std.proofs.lemmas.List.{get_or-replicate, drop_all, drop_more}
use Rattle.std.proofs.lemmas.Nat.{le-div}
use Rattle.mill_base.specs.Below.{any_below}
use Rattle.mill_base.proofs.lemmas.Belows.{any_alike, any_here, any_none, any_witness, true_together}
use Rattle.point_paper.specs.Papers.{covers}
use Rattle.point_paper.specs.declared.paper.Span.{Span}
use Rattle.draft_model.specs.declared.design.Design.{Design}
use Rattle.mill_base.specs.declared.size.Size.{Size}
use Rattle.strokes.specs.Paints.{paints}
use Rattle.strokes.specs.Spans.{AreSpansOf, IsInside, PreparedAct, cover, span_colour}
use Rattle.tile_grid.specs.Near.{any_cell, near}
use Rattle.tile_grid.specs.Tiles.{GridValue, IsTileGrid, across, tile_of, tiles}
use Rattle.tile_grid.proofs.lemmas.Near.{any_cell_here, any_cell_witness}
use Rattle.tile_grid.proofs.lemmas.Tiles.{side_some}
use Rattle.tile_rebuild.specs.Tiles.{grid_of}
use Rattle.studio_core.specs.Touches.{bind_tiles, check_tiles, near_any, touches}
use Rattle.studio_core.specs.inner.Touched.{grid_size, span_touches, spans_touch}

div_grows : (a b k : ℕ) → 0 < k → a ≤ b → a / k ≤ b / k
div_grows a b k some h = let e = div-mul-le_self a k in le-div (a / k) b k some (omega arith)

-- the first and the last tile of a span
abbrev pub first_of : GridValue → Span → ℕ
first_of grid span = tile_of grid span.column span.pick

abbrev pub last_of : GridValue → Span → ℕ
last_of grid span = tile_of grid (span.column + (span.length - 1)) span.pick

abbrev pub between : GridValue → Span → ℕ → Bool
between grid span u = nat_le (first_of grid span) u && nat_lt u (last_of grid span + 1)

-- a cell of the span is between
cell_between : (grid : GridValue) (span : Span) (c : ℕ) → IsTileGrid grid → span.column ≤ c → c < span.column + span.length → between grid span (tile_of grid c span.pick) ≡ true
unfolding tile_of
cell_between grid span c is from to =
    let row = span.pick / grid.side * across grid in
    let low = div_grows span.column c grid.side (side_some grid is) from in
    let high = div_grows c (span.column + (span.length - 1)) grid.side (side_some grid is) (omega arith) in
    and_from (nat_le (first_of grid span) (tile_of grid c span.pick)) (nat_lt (tile_of grid c span.pick) (last_of grid span + 1))
    (le-leb (first_of grid span) (tile_of grid c span.pick) (let e : row + span.column / grid.side ≤ row + c / grid.side = omega arith in e))
    (lt-ltb (tile_of grid c span.pick) (last_of grid span + 1) (let e : row + c / grid.side < row + (span.column + (span.length - 1)) / grid.side + 1 = omega arith in e))

-- a column of the i-th tile of a row, from column c on
column_in : (c i side : ℕ) → 0 < side → c / side ≤ i → max c (i * side) / side ≡ i
column_in c i side some low = ⊎_elim
    (λ (before : c < i * side).
    let e : max c (i * side) ≡ i * side = omega arith in
    ap (λ n. n / side) e ∙ mul-div_left i some)
    (λ (past : i * side ≤ c).
    let e : max c (i * side) ≡ c = omega arith in
    let up = le-div i c side some past in
    ap (λ n. n / side) e ∙ omega arith)
    (cases_lt c (i * side))

column_within : (c i last side : ℕ) → c ≤ last → i ≤ last / side → max c (i * side) ≤ last
column_within c i last side h high = ⊎_elim
    (λ (before : c < i * side). let e = div-mul-le_self last side in let f = steps i (last / side) side high in omega arith)
    (λ (past : i * side ≤ c). omega arith)
    (cases_lt c (i * side))
  where
    steps : (a b k : ℕ) → a ≤ b → a * k ≤ b * k
    steps a b k h = grind arith

-- a tile between has a cell of the span
between_touched : (grid : GridValue) (span : Span) (u : ℕ) → IsTileGrid grid → IsInside (grid_size grid) span → between grid span u ≡ true → span_touches grid span u ≡ true
unfolding span_touches tile_of
between_touched grid span u is inside there =
    let row = span.pick / grid.side * across grid in
    let last = span.column + (span.length - 1) in
    let both = and_parts (nat_le (first_of grid span) u) (nat_lt u (last_of grid span + 1)) there in
    let from : row + span.column / grid.side ≤ u = leb-true (first_of grid span) u both.0 in
    let to : u < row + last / grid.side + 1 = ltb-true u (last_of grid span + 1) both.1 in
    let i = u - row in
    let c = max span.column (i * grid.side) in
    let some = inside.some in
    let wide = inside.columns in
    let column : c / grid.side ≡ i = column_in span.column i grid.side (side_some grid is) (omega arith) in
    let within : c ≤ last = column_within span.column i last grid.side (omega arith) (omega arith) in
    let ahead : span.column ≤ c = omega arith in
    any_cell_here grid u (covers span) (record {
      c = c;
      p = span.pick;
      c_low = omega arith;
      p_low = inside.pick;
      of_tile = ap (λ n. row + n) column ∙ (let e : row + i ≡ u = omega arith in e);
      passes = and_from ((span.pick == span.pick) && nat_le span.column c) (nat_lt c (span.column + span.length))
          (and_from (span.pick == span.pick) (nat_le span.column c) (eq-eqb span.pick span.pick refl) (le-leb span.column c ahead))
          (lt-ltb c (span.column + span.length) (omega arith));
    })

-- a span touches the tiles from its first to its last
pub span_between : (grid : GridValue) (span : Span) (u : ℕ) → IsTileGrid grid → IsInside (grid_size grid) span → between grid span u ≡ span_touches grid span u
unfolding span_touches
span_between grid span u is inside = true_together (between grid span u) (span_touches grid span u)
    (between_touched grid span u is inside)
    (λ some.
    let w = any_cell_witness grid u (covers span) some in
    let both = and_parts ((w.p == span.pick) && nat_le span.column w.c) (nat_lt w.c (span.column + span.length)) w.passes in
    let first = and_parts (w.p == span.pick) (nat_le span.column w.c) both.0 in
    subst (λ n. between grid span n ≡ true) (ap (tile_of grid w.c) (sym (eqb-true w.p span.pick first.0)) ∙ w.of_tile)
    (cell_between grid span w.c is (leb-true span.column w.c first.1) (ltb-true w.c (span.column + span.length) both.1)))

first_to_last : (grid : GridValue) (span : Span) → IsTileGrid grid → first_of grid span ≤ last_of grid span
unfolding tile_of
first_to_last grid span is =
    let row = span.pick / grid.side * across grid in
    let up = div_grows span.column (span.column + (span.length - 1)) grid.side (side_some grid is) (omega arith) in
    let e : row + span.column / grid.side ≤ row + (span.column + (span.length - 1)) / grid.side = omega arith in
    e

-- all tiles from the first to the last were gone through
pub span_marked : (grid : GridValue) (span : Span) (first last tile u : ℕ) → IsTileGrid grid → IsInside (grid_size grid) span → first ≡ first_of grid span → last ≡ last_of grid span
    → last + 1 ≤ tile → (first ≤ last + 1 → tile ≤ last + 1) → (nat_le first u && nat_lt u tile) ≡ span_touches grid span u
span_marked grid span first last tile u is inside first_is last_is past upto =
    let ahead : first ≤ last = let h = first_to_last grid span is in omega arith in
    let end : tile ≡ last_of grid span + 1 = let h = upto (omega arith) in omega arith in
    ap (λ n. nat_le n u && nat_lt u tile) first_is ∙ ap (λ n. nat_le (first_of grid span) u && nat_lt u n) end ∙ span_between grid span u is inside

-- ---- spans, one after another

some_or : (a b : Option ℕ) → is_some (option_or a b) ≡ (is_some a || is_some b)
some_or None b = refl
some_or (Some x) b = refl

some_colour : (span : Span) (c p : ℕ) → is_some (span_colour span c p) ≡ covers span c p
some_colour span c p = some_cond (covers span c p) span.colour where
  some_cond : (b : Bool) (x : ℕ) → is_some (cond b (Some x) None) ≡ b
  some_cond true x = refl
  some_cond false x = refl

any_or : (p q : ℕ → Bool) (n : ℕ) → any_below (λ i. p i || q i) n ≡ (any_below p n || any_below q n)
any_or p q n = true_together (any_below (λ i. p i || q i) n) (any_below p n || any_below q n)
    (λ some.
    let w = any_witness (λ i. p i || q i) n some in ⊎_elim
    (λ (one : p w.0 ≡ true). or_left (any_below p n) (any_below q n) (any_here p n w.0 w.1 one))
    (λ (other : q w.0 ≡ true). or_right (any_below p n) (any_below q n) (any_here q n w.0 w.1 other))
    (or_cases (p w.0) (q w.0) w.2))
    (λ some. ⊎_elim
    (λ (one : any_below p n ≡ true). let w = any_witness p n one in any_here (λ i. p i || q i) n w.0 w.1 (or_left (p w.0) (q w.0) w.2))
    (λ (other : any_below q n ≡ true). let w = any_witness q n other in any_here (λ i. p i || q i) n w.0 w.1 (or_right (p w.0) (q w.0) w.2))
    (or_cases (any_below p n) (any_below q n) some))

and_over_or : (a b c : Bool) → (a && (b || c)) ≡ ((a && b) || (a && c))
and_over_or true b c = refl
and_over_or false b c = refl

cells_or : (grid : GridValue) (t : ℕ) (one other : ℕ → ℕ → Bool) → any_cell grid t (λ c p. one c p || other c p) ≡ (any_cell grid t one || any_cell grid t other)
unfolding any_cell
cells_or grid t one other =
    any_alike (λ p. any_below (λ c. tile_of grid c p == t && (one c p || other c p)) grid.columns)
    (λ p. any_below (λ c. tile_of grid c p == t && one c p) grid.columns || any_below (λ c. tile_of grid c p == t && other c p) grid.columns) grid.picks
    (λ p _.
    any_alike (λ c. tile_of grid c p == t && (one c p || other c p)) (λ c. (tile_of grid c p == t && one c p) || (tile_of grid c p == t && other c p)) grid.columns
    (λ c _. and_over_or (tile_of grid c p == t) (one c p) (other c p))
    ∙ any_or (λ c. tile_of grid c p == t && one c p) (λ c. tile_of grid c p == t && other c p) grid.columns)
    ∙ any_or (λ p. any_below (λ c. tile_of grid c p == t && one c p) grid.columns) (λ p. any_below (λ c. tile_of grid c p == t && other c p) grid.columns) grid.picks

-- tests that agree on the cells of the paper
pub cells_alike : (grid : GridValue) (t : ℕ) (one other : ℕ → ℕ → Bool) → ((c p : ℕ) → c < grid.columns → p < grid.picks → one c p ≡ other c p) → any_cell grid t one ≡ any_cell grid t other
unfolding any_cell
cells_alike grid t one other same =
    any_alike (λ p. any_below (λ c. tile_of grid c p == t && one c p) grid.columns) (λ p. any_below (λ c. tile_of grid c p == t && other c p) grid.columns) grid.picks
    (λ p hp. any_alike (λ c. tile_of grid c p == t && one c p) (λ c. tile_of grid c p == t && other c p) grid.columns (λ c hc. ap (λ b. tile_of grid c p == t && b) (same c p hc hp)))

-- the first of some spans
pub touch_cons : (grid : GridValue) (span : Span) (later : List Span) (u : ℕ) → spans_touch grid (span ∷ later) u ≡ (spans_touch grid later u || span_touches grid span u)
unfolding spans_touch span_touches
touch_cons grid span later u =
    cells_alike grid u (λ c p. is_some (cover (span ∷ later) c p)) (λ c p. is_some (cover later c p) || covers span c p)
    (λ c p _ _. some_or (cover later c p) (span_colour span c p) ∙ ap (λ b. is_some (cover later c p) || b) (some_colour span c p))
    ∙ cells_or grid u (λ c p. is_some (cover later c p)) (covers span)

pub touch_none : (grid : GridValue) (u : ℕ) → spans_touch grid [] u ≡ false
unfolding spans_touch any_cell
touch_none grid u =
    any_none (λ p. any_below (λ c. tile_of grid c p == u && false) grid.columns) grid.picks
    (λ p _. any_none (λ c. tile_of grid c p == u && false) grid.columns (λ c _. and_false (tile_of grid c p == u)))
  where
    and_false : (b : Bool) → (b && false) ≡ false
    and_false true = refl
    and_false false = refl

or_turned : (a b c : Bool) → ((a || b) || c) ≡ (a || (c || b))
or_turned true b c = refl
or_turned false true true = refl
or_turned false true false = refl
or_turned false false true = refl
or_turned false false false = refl

-- one span more
pub touch_more : (grid : GridValue) (spans : List Span) (k u : ℕ) (before : Bool) (d : Span) → k < length spans
    → ((before || span_touches grid (get_or spans k d) u) || spans_touch grid (drop (k + 1) spans) u) ≡ (before || spans_touch grid (drop k spans) u)
touch_more grid spans k u before d h =
    let span = get_or spans k d in
    or_turned before (span_touches grid span u) (spans_touch grid (drop (k + 1) spans) u)
    ∙ ap (λ b. before || b) (sym (touch_cons grid span (drop (k + 1) spans) u))
    ∙ ap (λ (xs : List Span). before || spans_touch grid xs u) (sym (drop_more spans k d h))

pub touch_all : (grid : GridValue) (spans : List Span) (k u : ℕ) (before : Bool) → length spans ≤ k → before ≡ (before || spans_touch grid (drop k spans) u)
touch_all grid spans k u before h = or_none before ∙ ap (λ b. before || b) (sym (touch_none grid u)) ∙ ap (λ (xs : List Span). before || spans_touch grid xs u) (sym (drop_all k spans h)) where
  or_none : (b : Bool) → b ≡ (b || false)
  or_none true = refl
  or_none false = refl

-- ---- near tiles

pub near_alike : (grid : GridValue) (one other : ℕ → Bool) (u : ℕ) → ((t : ℕ) → t < tiles grid → one t ≡ other t) → near_any grid one u ≡ near_any grid other u
unfolding near_any
near_alike grid one other u same = any_alike (λ t. one t && near grid t u) (λ t. other t && near grid t u) (tiles grid) (λ t h. ap (λ b. b && near grid t u) (same t h))

-- a set that was emptied has what was added
pub from_none : (empty set : List Bool) (n m t : ℕ) (added : ℕ → Bool) → empty ≡ replicate n false → n ≡ m → t < m → get_or set t false ≡ (get_or empty t false || added t) → get_or set t false ≡ added t
from_none empty set n m t added none long h is = is ∙ ap (λ (xs : List Bool). get_or xs t false || added t) none ∙ ap (λ b. b || added t) (get_or-replicate n t false false (omega arith))

-- ---- acts by their spans

-- the spans of an act touch what the act touches
pub touched_by_spans : (design : Design) (act : PreparedAct) (u : ℕ) → act.size ≡ design.size → AreSpansOf act.motif act.size act.act act.spans
    → spans_touch (grid_of design) act.spans u ≡ touches (grid_of design) act.motif act.size act.act u
unfolding spans_touch touches
touched_by_spans design act u same spans =
    cells_alike (grid_of design) u (λ c p. is_some (cover act.spans c p)) (λ c p. is_some (paints act.motif act.size act.act c p))
    (λ c p hc hp. ap is_some (spans.cells c p (subst (λ (s : Size). c < s.columns) (sym same) hc) (subst (λ (s : Size). p < s.picks) (sym same) hp)))

-- marks by spans are marks by the act
pub bind_by_spans : (design : Design) (grid : GridValue) (act : PreparedAct) (u : ℕ) → grid ≡ grid_of design → act.size ≡ design.size → AreSpansOf act.motif act.size act.act act.spans
    → near_any grid (spans_touch grid act.spans) u ≡ bind_tiles (grid_of design) act.motif act.size act.act u
bind_by_spans design grid act u is same spans =
    ap (λ (g : GridValue). near_any g (spans_touch g act.spans) u) is
    ∙ near_alike (grid_of design) (spans_touch (grid_of design) act.spans) (touches (grid_of design) act.motif act.size act.act) u (λ t _. touched_by_spans design act t same spans)

pub check_by_spans : (design : Design) (grid : GridValue) (act : PreparedAct) (u : ℕ) → grid ≡ grid_of design → act.size ≡ design.size → AreSpansOf act.motif act.size act.act act.spans
    → near_any grid (near_any grid (spans_touch grid act.spans)) u ≡ check_tiles (grid_of design) act.motif act.size act.act u
check_by_spans design grid act u is same spans =
    ap (λ (g : GridValue). near_any g (near_any g (spans_touch g act.spans)) u) is
    ∙ near_alike (grid_of design) (near_any (grid_of design) (spans_touch (grid_of design) act.spans)) (bind_tiles (grid_of design) act.motif act.size act.act) u
    (λ t _. bind_by_spans design (grid_of design) act t refl same spans)
