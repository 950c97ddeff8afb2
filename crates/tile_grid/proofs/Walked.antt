-- The walk round a line.
use Rattle.std.proofs.Common.{◌≡◌, ◌≢◌, ℕ, suc, ◌+◌, ◌-◌, ◌*◌, ◌<◌, ◌≤◌, ◌==◌, Bool, true, false, ◌&&◌, ◌||◌, cond, List, [], length, get_or, set, replicate, length-set, get_or-set_same, get_or-set_other, refl, sym, ap, subst, ◌∙◌, ⊎_elim, nat_lt, arith, add-one, eq-eqb, ne_eqb}
use Rattle.std.specs.Prelude.{slice_index, slice_index_or}
use Rattle.std.proofs.lemmas.Bool.{cases_eq, cases_lt, and_left, and_right, lt-ltb, le-ltb}
use Rattle.std.proofs.lemmas.List.{get_or-replicate, length-replicate}
use Rattle.std.proofs.lemmas.Nat.{mod_below}
use Rattle.mill_base.specs.Below.{any_below, count_below}
use Rattle.mill_base.specs.Grids.{GridCells, grid_row, grid_cell}
use Rattle.mill_base.specs.Lines.{line_by}
use Rattle.mill_base.proofs.lemmas.Belows.{any_alike, count_alike, count_few}
use Rattle.mill_base.proofs.lemmas.Lines.{length-line_by, get_or-line_by, line_is, line_by_alike, line_of_one}
use Rattle.tile_grid.specs.Near.{is_near, kinds_near}
use Rattle.tile_grid.specs.inner.Tables.{IsTable}
use Rattle.tile_grid.specs.inner.Walks.{window_place, is_kind_at, count_at, near_so_far}
use Rattle.tile_grid.proofs.Windows.{window_steps, count_slides, counted, count_here, any_in_window}

pub window_there : (kinds : List ℕ) (limit x d : ℕ) → 0 < length kinds → window_place (length kinds) limit x d < length kinds
window_there kinds limit x d some = mod_below (x + length kinds * limit - limit + d) (length kinds) some

-- one place on: what the window counts of a kind
pub count_step : (kinds : List ℕ) (limit x b : ℕ) → 0 < length kinds
    → count_at kinds limit (x + 1) b + cond (is_kind_at kinds limit x b 0) 1 0 ≡ count_at kinds limit x b + cond (is_kind_at kinds limit x b (2 * limit + 1)) 1 0
count_step kinds limit x b some =
    ap (λ m. m + cond (is_kind_at kinds limit x b 0) 1 0)
    (count_alike (is_kind_at kinds limit (x + 1) b) (λ d. is_kind_at kinds limit x b (suc d)) (2 * limit + 1)
    (λ d h. ap (λ n. slice_index kinds n == b) (window_steps (length kinds) limit x d some ∙ (rw add-one refl))))
    ∙ count_slides (is_kind_at kinds limit x b) (2 * limit + 1)

weight_here : (a b : ℕ) → a ≡ b → cond {A = ℕ} (a == b) 1 0 ≡ 1
weight_here a b same = ap (λ t. cond {A = ℕ} t 1 0) (eq-eqb a b same)

weight_apart : (a b : ℕ) → a ≢ b → cond {A = ℕ} (a == b) 1 0 ≡ 0
weight_apart a b apart = ap (λ t. cond {A = ℕ} t 1 0) (ne_eqb a b apart)

-- counts of which one is raised
raised_at : (counts : List ℕ) (kind b : ℕ) → kind < length counts → get_or (set counts kind (get_or counts kind 0 + 1)) b 0 ≡ get_or counts b 0 + cond (kind == b) 1 0
raised_at counts kind b there = ⊎_elim
    (λ (same : kind ≡ b).
    let now : get_or (set counts kind (get_or counts kind 0 + 1)) b 0 ≡ get_or counts kind 0 + 1 =
    ap (λ k. get_or (set counts kind (get_or counts kind 0 + 1)) k 0) (sym same) ∙ get_or-set_same counts kind (get_or counts kind 0 + 1) 0 there in
    let one = weight_here kind b same in
    let here : get_or counts kind 0 ≡ get_or counts b 0 = ap (λ k. get_or counts k 0) same in
    omega arith)
    (λ (apart : kind ≢ b).
    let now = get_or-set_other counts kind b (get_or counts kind 0 + 1) 0 (λ e. apart (sym e)) in
    let none = weight_apart kind b apart in
    omega arith)
    (cases_eq kind b)

-- counts of which one is lowered
lowered_at : (counts : List ℕ) (kind b : ℕ) → kind < length counts → 0 < get_or counts kind 0
    → get_or (set counts kind (get_or counts kind 0 - 1)) b 0 + cond (kind == b) 1 0 ≡ get_or counts b 0
lowered_at counts kind b there some = ⊎_elim
    (λ (same : kind ≡ b).
    let now : get_or (set counts kind (get_or counts kind 0 - 1)) b 0 ≡ get_or counts kind 0 - 1 =
    ap (λ k. get_or (set counts kind (get_or counts kind 0 - 1)) k 0) (sym same) ∙ get_or-set_same counts kind (get_or counts kind 0 - 1) 0 there in
    let one = weight_here kind b same in
    let here : get_or counts kind 0 ≡ get_or counts b 0 = ap (λ k. get_or counts k 0) same in
    omega arith)
    (λ (apart : kind ≢ b).
    let now = get_or-set_other counts kind b (get_or counts kind 0 - 1) 0 (λ e. apart (sym e)) in
    let none = weight_apart kind b apart in
    omega arith)
    (cases_eq kind b)

-- a window counts no more of a kind than it has places
pub count_at_few : (kinds : List ℕ) (limit x b : ℕ) → count_at kinds limit x b ≤ 2 * limit + 1
count_at_few kinds limit x b = count_few (is_kind_at kinds limit x b) (2 * limit + 1)

-- it has some of the kind of its first place, also after another has come in
pub first_is_counted : (kinds counts mid : List ℕ) (limit x n into out : ℕ) → length counts ≡ n → into < n → out < n
    → out ≡ slice_index kinds (window_place (length kinds) limit x 0)
    → ((b : ℕ) → b < n → slice_index counts b ≡ count_at kinds limit x b)
    → mid ≡ set counts into (slice_index counts into + 1) → 0 < slice_index mid out
first_is_counted kinds counts mid limit x n into out long into_low out_low is_out count is_mid =
    let some = count_here (is_kind_at kinds limit x out) (2 * limit + 1) 0 (omega arith) (eq-eqb (slice_index kinds (window_place (length kinds) limit x 0)) out (sym is_out)) in
    let now = count out out_low in
    let more = raised_at counts into out (omega arith) in
    subst (λ (xs : List ℕ). 0 < slice_index xs out) (sym is_mid) (omega arith)

-- the row of the table that was joined
pub joined_row : (near new : GridCells) (kind n b : ℕ) (row copied more joined : List Bool) → kind < length near.rows → b < n → row ≡ grid_row near kind → copied ≡ row
    → ((i : ℕ) → i < n → slice_index_or joined (0 + i) false ≡ (slice_index_or copied (0 + i) false || slice_index_or more (0 + i) false))
    → new ≡ record near { rows = set near.rows kind joined } → grid_cell new b kind ≡ (grid_cell near b kind || slice_index_or more b false)
joined_row near new kind n b row copied more joined there low is_row is_copied here is_new =
    let e : 0 + b ≡ b = omega arith in
    ap (λ (g : GridCells). grid_cell g b kind) is_new
    ∙ ap (λ line. slice_index_or line b false) (get_or-set_same near.rows kind joined [] there)
    ∙ subst (λ (m : ℕ). slice_index_or joined m false ≡ (slice_index_or copied m false || slice_index_or more m false)) e (here b low)
    ∙ ap (λ line. slice_index_or line b false || slice_index_or more b false) (is_copied ∙ is_row)

-- the counts after one place has come in
pub entered : (p : ℕ → ℕ → Bool) (counts new : List ℕ) (d n kind : ℕ) → length counts ≡ n → kind < n → ((b : ℕ) → p b d ≡ (kind == b))
    → ((b : ℕ) → b < n → slice_index counts b ≡ count_below (p b) d)
    → new ≡ set counts kind (slice_index counts kind + 1) → (b : ℕ) → b < n → slice_index new b ≡ count_below (p b) (d + 1)
entered p counts new d n kind long low is count is_new b hb =
    ap (λ xs. get_or xs b 0) is_new ∙ raised_at counts kind b (omega arith)
    ∙ ap (λ m. m + cond (kind == b) 1 0) (count b hb) ∙ ap (λ t. count_below (p b) d + cond t 1 0) (sym (is b)) ∙ sym (one_more (p b) d)
  where
    one_more : (p : ℕ → Bool) (n : ℕ) → count_below p (n + 1) ≡ count_below p n + cond (p n) 1 0
    one_more p n = rw add-one refl

-- the counts after one place has come in and one has left
pub slid : (kinds counts mid new : List ℕ) (limit x n into out : ℕ) → length counts ≡ n → 0 < length kinds → into < n → out < n
    → into ≡ slice_index kinds (window_place (length kinds) limit x (2 * limit + 1))
    → out ≡ slice_index kinds (window_place (length kinds) limit x 0)
    → ((b : ℕ) → b < n → slice_index counts b ≡ count_at kinds limit x b)
    → mid ≡ set counts into (slice_index counts into + 1) → new ≡ set mid out (slice_index mid out - 1)
    → (b : ℕ) → b < n → slice_index new b ≡ count_at kinds limit (x + 1) b
slid kinds counts mid new limit x n into out long some into_low out_low is_into is_out count is_mid is_new b hb =
    let positive = first_is_counted kinds counts mid limit x n into out long into_low out_low is_out count is_mid in
    let wide : length mid ≡ length counts = ap length is_mid ∙ length-set counts into (slice_index counts into + 1) in
    let raised : slice_index mid b ≡ slice_index counts b + cond (into == b) 1 0 = ap (λ xs. get_or xs b 0) is_mid ∙ raised_at counts into b (omega arith) in
    let lowered : slice_index new b + cond (out == b) 1 0 ≡ slice_index mid b =
    ap (λ xs. get_or xs b 0 + cond (out == b) 1 0) is_new ∙ lowered_at mid out b (omega arith) positive in
    let step = count_step kinds limit x b some in
    let now = count b hb in
    let came : cond {A = ℕ} (into == b) 1 0 ≡ cond (is_kind_at kinds limit x b (2 * limit + 1)) 1 0 = ap (λ k. cond {A = ℕ} (k == b) 1 0) is_into in
    let left : cond {A = ℕ} (out == b) 1 0 ≡ cond (is_kind_at kinds limit x b 0) 1 0 = ap (λ k. cond {A = ℕ} (k == b) 1 0) is_out in
    omega arith

or_nothing : (a : Bool) → a ≡ (a || false)
or_nothing true = refl
or_nothing false = refl

or_either : (a b c : Bool) → ((a || b) || c) ≡ (a || (b || c))
or_either true b c = refl
or_either false b c = refl

-- one place more in the middle of the window
pub near_one : (kinds : List ℕ) (limit x a b : ℕ)
    → near_so_far kinds limit (x + 1) a b ≡ (near_so_far kinds limit x a b || (slice_index kinds x == a && any_below (is_kind_at kinds limit x b) (2 * limit + 1)))
near_one kinds limit x a b =
    ap (λ t. a == b || t) (any_one (λ x. slice_index kinds x == a && any_below (is_kind_at kinds limit x b) (2 * limit + 1)) x)
    ∙ sym (or_either (a == b) (any_below (λ x. slice_index kinds x == a && any_below (is_kind_at kinds limit x b) (2 * limit + 1)) x) (slice_index kinds x == a && any_below (is_kind_at kinds limit x b) (2 * limit + 1)))
  where
    any_one : (p : ℕ → Bool) (n : ℕ) → any_below p (n + 1) ≡ (any_below p n || p n)
    any_one p n = rw add-one refl

-- the table after one place more: the row of its kind is joined with the kinds of the window
pub table_more : (kinds counts : List ℕ) (limit x n : ℕ) (seen : List Bool) (old new : GridCells) → IsTable n (near_so_far kinds limit x) old
    → slice_index kinds x < n
    → ((b : ℕ) → b < n → slice_index counts b ≡ count_at kinds limit x b)
    → ((b : ℕ) → b < n → slice_index_or seen b false ≡ nat_lt 0 (slice_index counts b))
    → new.width ≡ n → length new.rows ≡ n → length (grid_row new (slice_index kinds x)) ≡ n
    → ((b : ℕ) → b < n → grid_cell new b (slice_index kinds x) ≡ (grid_cell old b (slice_index kinds x) || slice_index_or seen b false))
    → ((a : ℕ) → a ≢ slice_index kinds x → grid_row new a ≡ grid_row old a)
    → IsTable n (near_so_far kinds limit (x + 1)) new
table_more kinds counts limit x n seen old new before low count is_seen width height long here others = record {
  width = width;
  height = height;
  lines = λ a h. ⊎_elim
      (λ (same : a ≡ slice_index kinds x).
      subst (λ (m : ℕ). grid_row new m ≡ line_by n (near_so_far kinds limit (x + 1) m)) (sym same)
      (line_is false (grid_row new (slice_index kinds x)) n (near_so_far kinds limit (x + 1) (slice_index kinds x)) long (λ b hb. joined b hb)))
      (λ (apart : a ≢ slice_index kinds x).
      others a apart ∙ before.lines a h
      ∙ line_by_alike false n (near_so_far kinds limit x a) (near_so_far kinds limit (x + 1) a)
      (λ b hb. or_nothing (near_so_far kinds limit x a b)
      ∙ ap (λ t. near_so_far kinds limit x a b || (t && any_below (is_kind_at kinds limit x b) (2 * limit + 1))) (sym (ne_eqb (slice_index kinds x) a (λ e. apart (sym e))))
      ∙ sym (near_one kinds limit x a b)))
      (cases_eq a (slice_index kinds x));
} where
  joined : (b : ℕ) → b < n → grid_cell new b (slice_index kinds x) ≡ near_so_far kinds limit (x + 1) (slice_index kinds x) b
  joined b hb =
      here b hb
      ∙ ap (λ t. t || slice_index_or seen b false) (ap (λ row. slice_index_or row b false) (before.lines (slice_index kinds x) low) ∙ get_or-line_by n (near_so_far kinds limit x (slice_index kinds x)) b false hb)
      ∙ ap (λ t. near_so_far kinds limit x (slice_index kinds x) b || t) (is_seen b hb ∙ ap (nat_lt 0) (count b hb) ∙ counted (is_kind_at kinds limit x b) (2 * limit + 1))
      ∙ ap (λ t. near_so_far kinds limit x (slice_index kinds x) b || (t && any_below (is_kind_at kinds limit x b) (2 * limit + 1))) (sym (eq-eqb (slice_index kinds x) (slice_index kinds x) refl))
      ∙ sym (near_one kinds limit x (slice_index kinds x) b)

-- the kinds that are near one another are those that the walk found
pub kinds_walked : (kinds : List ℕ) (limit a b : ℕ) → (a == b || kinds_near (length kinds) limit (slice_index kinds) a b) ≡ near_so_far kinds limit (length kinds) a b
unfolding kinds_near
kinds_walked kinds limit a b = ap (λ t. a == b || t)
    (any_alike (λ x. slice_index kinds x == a && any_below (λ y. slice_index kinds y == b && is_near (length kinds) limit x y) (length kinds))
    (λ x. slice_index kinds x == a && any_below (is_kind_at kinds limit x b) (2 * limit + 1)) (length kinds)
    (λ x h. ap (λ t. slice_index kinds x == a && t) (any_in_window (λ y. slice_index kinds y == b) (length kinds) limit x h)))

-- a table by another formula of its cells
pub table_alike : (n : ℕ) (one other : ℕ → ℕ → Bool) (grid : GridCells) → ((a b : ℕ) → a < n → b < n → one a b ≡ other a b) → IsTable n one grid → IsTable n other grid
table_alike n one other grid same table = record {
  width = table.width;
  height = table.height;
  lines = λ a h. table.lines a h ∙ line_by_alike false n (one a) (other a) (λ b hb. same a b h hb);
}

-- no cell of the table is set
pub table_none : (n : ℕ) (grid : GridCells) → grid ≡ record { width = n; rows = replicate n (replicate n false) } → IsTable n (λ a b. a == b && nat_lt a 0) grid
table_none n grid is = subst (IsTable n (λ a b. a == b && nat_lt a 0)) (sym is) (record {
  width = refl;
  height = length-replicate n (replicate n false);
  lines = λ a h.
      get_or-replicate n a (replicate n false) [] h ∙ line_of_one n false
      ∙ line_by_alike false n (λ b. false) (λ b. a == b && nat_lt a 0) (λ b hb. sym (and_right (a == b) (nat_lt a 0) (le-ltb a 0 (omega arith))));
})

-- one more row of the table has its cell
pub table_step : (n k : ℕ) (old new : GridCells) → k < n → IsTable n (λ a b. a == b && nat_lt a k) old
    → new ≡ record old { rows = set old.rows k (set (grid_row old k) k true) } → IsTable n (λ a b. a == b && nat_lt a (k + 1)) new
table_step n k old new low before is = subst (IsTable n (λ a b. a == b && nat_lt a (k + 1))) (sym is) (record {
  width = before.width;
  height = length-set old.rows k (set (grid_row old k) k true) ∙ before.height;
  lines = λ a h. ⊎_elim
      (λ (same : a ≡ k). subst (λ (m : ℕ). grid_row (record old { rows = set old.rows k (set (grid_row old k) k true) }) m ≡ line_by n (λ b. m == b && nat_lt m (k + 1))) (sym same)
      (get_or-set_same old.rows k (set (grid_row old k) k true) [] (omega (arith, before.height, low)) ∙ row_here))
      (λ (apart : a ≢ k).
      get_or-set_other old.rows k a (set (grid_row old k) k true) [] apart ∙ before.lines a h
      ∙ line_by_alike false n (λ b. a == b && nat_lt a k) (λ b. a == b && nat_lt a (k + 1)) (λ b hb. ap (λ t. a == b && t) (sides a apart)))
      (cases_eq a k);
}) where
  long : length (grid_row old k) ≡ n
  long = ap length (before.lines k low) ∙ length-line_by n (λ b. k == b && nat_lt k k)

  sides : (a : ℕ) → a ≢ k → nat_lt a k ≡ nat_lt a (k + 1)
  sides a apart = ⊎_elim
      (λ (below : a < k). lt-ltb a k below ∙ sym (lt-ltb a (k + 1) (omega arith)))
      (λ (past : k ≤ a). le-ltb a k past ∙ sym (le-ltb a (k + 1) (omega arith)))
      (cases_lt a k)

  row_here : set (grid_row old k) k true ≡ line_by n (λ b. k == b && nat_lt k (k + 1))
  row_here = line_is false (set (grid_row old k) k true) n (λ b. k == b && nat_lt k (k + 1)) (length-set (grid_row old k) k true ∙ long) (λ b hb. ⊎_elim
      (λ (same : b ≡ k).
      ap (λ m. get_or (set (grid_row old k) k true) m false) same ∙ get_or-set_same (grid_row old k) k true false (omega (arith, long, low))
      ∙ sym (ap (λ t. t && nat_lt k (k + 1)) (eq-eqb k b (sym same)) ∙ lt-ltb k (k + 1) (omega arith)))
      (λ (apart : b ≢ k).
      get_or-set_other (grid_row old k) k b true false apart
      ∙ ap (λ row. get_or row b false) (before.lines k low) ∙ get_or-line_by n (λ b. k == b && nat_lt k k) b false hb
      ∙ and_left (k == b) (nat_lt k k) (ne_eqb k b (λ e. apart (sym e))) ∙ sym (and_left (k == b) (nat_lt k (k + 1)) (ne_eqb k b (λ e. apart (sym e)))))
      (cases_eq b k))

-- all rows of the table have their cells
pub table_whole : (n : ℕ) (grid : GridCells) → IsTable n (λ a b. a == b && nat_lt a n) grid → IsTable n (λ a b. a == b) grid
table_whole n grid table = table_alike n (λ a b. a == b && nat_lt a n) (λ a b. a == b) grid
    (λ a b ha hb. ap (λ t. a == b && t) (lt-ltb a n ha) ∙ and_true (a == b)) table where
      and_true : (t : Bool) → (t && true) ≡ t
      and_true true = refl
      and_true false = refl
