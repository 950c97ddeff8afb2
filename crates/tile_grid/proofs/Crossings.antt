-- The tiles of one tile row and one tile column, in rising order. `n` tiles stand side by side; `p` says which tile
-- columns are marked, and `q` which tile rows; the tile in column i of row j is one that is crossed from both sides.
use Rattle.std.proofs.Common.{◌≡◌, ◌≢◌, ℕ, zero, suc, ◌+◌, ◌-◌, ◌*◌, ◌/◌, ◌%◌, ◌<◌, ◌≤◌, ◌==◌, Bool, true, false, ◌&&◌, ◌||◌, cond, List, length, get_or, refl, sym, ap, subst, ◌∙◌, ⊎_elim, arith, eq-eqb, ne_eqb, count_by}
use Rattle.std.proofs.Math.Nat.{suc-mul}
use Rattle.std.proofs.lemmas.Bool.{cases_eq, cases_lt, and_left, cond-true}
use Rattle.std.proofs.lemmas.Nat.{div-mul-add, mod-mul-add, mul-add-lt}
use Rattle.mill_base.specs.Below.{count_below}
use Rattle.mill_base.proofs.lemmas.Belows.{count_alike, count_none}
use Rattle.tile_grid.specs.inner.Tables.{IsTrueAt, IsCrossedAt}
use Rattle.tile_grid.proofs.Counts.{count_further, count_only, count_grows, counted_row}

abbrev pub crossed : (ℕ → Bool) → (ℕ → Bool) → ℕ → ℕ → ℕ → ℕ → Bool
crossed p q n i j u = (j == u / n && p (u % n)) || (i == u % n && q (u / n))

at_place : (p q : ℕ → Bool) (n i j r k : ℕ) → k < n → crossed p q n i j (r * n + k) ≡ ((j == r && p k) || (i == k && q r))
at_place p q n i j r k h =
    let row : (r * n + k) / n ≡ r = div-mul-add r n k h in
    let column : (r * n + k) % n ≡ k = mod-mul-add r n k h in
    ap (λ y. (j == y && p ((r * n + k) % n)) || (i == (r * n + k) % n && q y)) row ∙ ap (λ x. (j == r && p x) || (i == x && q r)) column

-- in row j: the marked columns
pub in_row_j : (p q : ℕ → Bool) (n i j k : ℕ) → k < n → p i ≡ true → crossed p q n i j (j * n + k) ≡ p k
in_row_j p q n i j k h both = at_place p q n i j j k h ∙ ap (λ t. (t && p k) || (i == k && q j)) (eq-eqb j j refl) ∙ kept where
  kept : ((true && p k) || (i == k && q j)) ≡ p k
  kept = ⊎_elim
      (λ (same : i ≡ k). let on : p k ≡ true = ap p (sym same) ∙ both in ap (λ t. t || (i == k && q j)) on ∙ sym on)
      (λ (apart : i ≢ k). ap (λ t. p k || (t && q j)) (ne_eqb i k apart) ∙ or_nothing (p k)) (cases_eq i k)
    where
      or_nothing : (a : Bool) → (a || false) ≡ a
      or_nothing true = refl
      or_nothing false = refl

-- in another row: column i alone, if the row is marked
pub in_other_row : (p q : ℕ → Bool) (n i j r k : ℕ) → k < n → j ≢ r → crossed p q n i j (r * n + k) ≡ (i == k && q r)
in_other_row p q n i j r k h apart = at_place p q n i j r k h ∙ ap (λ t. (t && p k) || (i == k && q r)) (ne_eqb j r apart)

-- how many are crossed in the first places of a row
count_row_j : (p q : ℕ → Bool) (n i j m : ℕ) → m ≤ n → p i ≡ true → count_below (λ k. crossed p q n i j (j * n + k)) m ≡ count_below p m
count_row_j p q n i j m h both = count_alike (λ k. crossed p q n i j (j * n + k)) p m (λ k low. in_row_j p q n i j k (omega arith) both)

count_other_row : (p q : ℕ → Bool) (n i j r : ℕ) → i < n → j ≢ r → count_below (λ k. crossed p q n i j (r * n + k)) n ≡ cond (q r) 1 0
count_other_row p q n i j r hi apart =
    count_only (λ k. crossed p q n i j (r * n + k)) n i hi (λ k hk off. in_other_row p q n i j r k hk apart ∙ and_left (i == k) (q r) (ne_eqb i k (λ e. off (sym e))))
    ∙ ap (λ t. cond {A = ℕ} t 1 0) (in_other_row p q n i j r i hi apart ∙ ap (λ t. t && q r) (eq-eqb i i refl))

count_before_i : (p q : ℕ → Bool) (n i j r : ℕ) → i < n → j ≢ r → count_below (λ k. crossed p q n i j (r * n + k)) i ≡ 0
count_before_i p q n i j r hi apart =
    count_none (λ k. crossed p q n i j (r * n + k)) i (λ k hk. in_other_row p q n i j r k (omega arith) apart ∙ and_left (i == k) (q r) (ne_eqb i k (λ e. (let f : i ≡ k = e in omega arith))))

next_row : (f : ℕ → Bool) (n r : ℕ) → count_below f (suc r * n) ≡ count_below f (r * n) + count_below (λ k. f (r * n + k)) n
next_row f n r = ap (count_below f) (suc-mul r n) ∙ count_further f (r * n) n

-- the rows up to row j
pub count_below_j : (p q : ℕ → Bool) (n i j r : ℕ) → i < n → r ≤ j → count_below (crossed p q n i j) (r * n) ≡ count_below q r
count_below_j p q n i j zero hi h = let e : 0 * n ≡ 0 = omega arith in ap (count_below (crossed p q n i j)) e
count_below_j p q n i j (suc r) hi h =
    let before = count_below_j p q n i j r hi (omega arith) in
    let here = count_other_row p q n i j r hi (λ e. (let f : j ≡ r = e in omega arith)) in
    next_row (crossed p q n i j) n r ∙ omega arith

-- the rows past row j
pub count_above_j : (p q : ℕ → Bool) (n i j d : ℕ) → i < n → p i ≡ true → q j ≡ true
    → count_below (crossed p q n i j) (suc (j + d) * n) + 1 ≡ count_below q (suc (j + d)) + count_below p n
count_above_j p q n i j zero hi pi qj =
    let e : j + 0 ≡ j = omega arith in
    let before = count_below_j p q n i j j hi (omega arith) in
    let here = count_row_j p q n i j n (omega arith) pi in
    let row = next_row (crossed p q n i j) n j in
    let one : cond {A = ℕ} (q j) 1 0 ≡ 1 = cond-true (q j) 1 0 qj in
    rw e (omega arith)
count_above_j p q n i j (suc d) hi pi qj =
    let e : j + suc d ≡ suc (j + d) = omega arith in
    let before = count_above_j p q n i j d hi pi qj in
    let here = count_other_row p q n i j (suc (j + d)) hi (λ e. (let f : j ≡ suc (j + d) = e in omega arith)) in
    let row = next_row (crossed p q n i j) n (suc (j + d)) in
    rw e (omega arith)

-- all rows
pub count_all : (p q : ℕ → Bool) (n m i j : ℕ) → i < n → j < m → p i ≡ true → q j ≡ true → count_below (crossed p q n i j) (n * m) + 1 ≡ count_below q m + count_below p n
count_all p q n m i j hi hj pi qj =
    let e : suc (j + (m - j - 1)) ≡ m = omega arith in
    let f : suc (j + (m - j - 1)) * n ≡ n * m = ap (λ k. k * n) e ∙ turned m n in
    subst (λ (a : ℕ). count_below (crossed p q n i j) a + 1 ≡ count_below q m + count_below p n) f
    (subst (λ (a : ℕ). count_below (crossed p q n i j) (suc (j + (m - j - 1)) * n) + 1 ≡ count_below q a + count_below p n) e (count_above_j p q n i j (m - j - 1) hi pi qj))
  where
    turned : (a b : ℕ) → a * b ≡ b * a
    turned a b = grind arith

-- ---- the k-th of them

pub record IsCrossing (p q : ℕ → Bool) (n m i j k u : ℕ) : Type 0 where
  pub there : u < n * m
  pub here : crossed p q n i j u ≡ true
  pub before : count_below (crossed p q n i j) u ≡ k

-- below row j
pub crossing_below : (p q : ℕ → Bool) (n m i j k r : ℕ) → i < n → j < m → r < m → q r ≡ true → count_below q r ≡ k → k < count_below q j → IsCrossing p q n m i j k (r * n + i)
crossing_below p q n m i j k r hi hj hr marked count few =
    let low : r < j = ⊎_elim (λ (h : r < j). h) (λ (h : j ≤ r). absurd (let more = count_grows q j r h in omega arith)) (cases_lt r j) in
    let apart : j ≢ r = λ e. (let f : j ≡ r = e in omega arith) in
    record {
      there = mul-add-lt r n i m hr hi;
      here = in_other_row p q n i j r i hi apart ∙ ap (λ t. t && q r) (eq-eqb i i refl) ∙ marked;
      before = count_further (crossed p q n i j) (r * n) i ∙ (let rows = count_below_j p q n i j r hi (omega arith) in let none = count_before_i p q n i j r hi apart in omega arith);
    }

-- in row j
pub crossing_beside : (p q : ℕ → Bool) (n m i j k c : ℕ) → j < m → i < n → p i ≡ true → c < n → p c ≡ true → count_below q j + count_below p c ≡ k → IsCrossing p q n m i j k (j * n + c)
crossing_beside p q n m i j k c hj hi pi hc marked count = record {
  there = mul-add-lt j n c m hj hc;
  here = in_row_j p q n i j c hc pi ∙ marked;
  before = count_further (crossed p q n i j) (j * n) c ∙ (let rows = count_below_j p q n i j j hi (omega arith) in let row = count_row_j p q n i j c (omega arith) pi in omega arith);
}

-- above row j
pub crossing_above : (p q : ℕ → Bool) (n m i j k r : ℕ) → i < n → j < m → r < m → p i ≡ true → q j ≡ true → q r ≡ true
    → count_below q r + count_below p n ≡ k + 1 → count_below q j + count_below p n ≤ k → IsCrossing p q n m i j k (r * n + i)
crossing_above p q n m i j k r hi hj hr pi qj marked count many =
    let high : j < r = ⊎_elim (λ (h : j < r). h) (λ (h : r ≤ j). absurd (let more = count_grows q r j h in omega arith)) (cases_lt j r) in
    let apart : j ≢ r = λ e. (let f : j ≡ r = e in omega arith) in
    let e : suc (j + (r - j - 1)) ≡ r = omega arith in
    let rows : count_below (crossed p q n i j) (r * n) + 1 ≡ count_below q r + count_below p n =
    subst (λ (a : ℕ). count_below (crossed p q n i j) (a * n) + 1 ≡ count_below q a + count_below p n) e (count_above_j p q n i j (r - j - 1) hi pi qj) in
    record {
      there = mul-add-lt r n i m hr hi;
      here = in_other_row p q n i j r i hi apart ∙ ap (λ t. t && q r) (eq-eqb i i refl) ∙ marked;
      before = count_further (crossed p q n i j) (r * n) i ∙ (let none = count_before_i p q n i j r hi apart in omega arith);
    }

-- the same of two rows, at the places where code finds them
pub crossed_below : (columns rows : List Bool) (i j k n below r : ℕ) → n ≡ length columns → i < length columns → j < length rows
    → below ≡ count_below (λ x. get_or rows x false) j → k < below → IsTrueAt rows k r → IsCrossedAt columns rows i j k (r * n + i)
crossed_below columns rows i j k n below r wide hi hj count few found =
    let is = crossing_below (λ x. get_or columns x false) (λ x. get_or rows x false) (length columns) (length rows) i j k r hi hj found.within found.here found.before (omega arith) in
    subst (λ (w : ℕ). IsCrossedAt columns rows i j k (r * w + i)) (sym wide) (record { there = is.there; here = is.here; before = is.before })

pub crossed_beside : (columns rows : List Bool) (i j k n below c : ℕ) → n ≡ length columns → i < length columns → j < length rows → get_or columns i false ≡ true
    → below ≡ count_below (λ x. get_or rows x false) j → below ≤ k → IsTrueAt columns (k - below) c → IsCrossedAt columns rows i j k (j * n + c)
crossed_beside columns rows i j k n below c wide hi hj pi count past found =
    let before = found.before in
    let is = crossing_beside (λ x. get_or columns x false) (λ x. get_or rows x false) (length columns) (length rows) i j k c hj hi pi found.within found.here (omega arith) in
    subst (λ (w : ℕ). IsCrossedAt columns rows i j k (j * w + c)) (sym wide) (record { there = is.there; here = is.here; before = is.before })

pub crossed_above : (columns rows : List Bool) (i j k n below beside r : ℕ) → n ≡ length columns → i < length columns → j < length rows → get_or columns i false ≡ true
    → get_or rows j false ≡ true → below ≡ count_below (λ x. get_or rows x false) j → beside ≡ count_by (λ b. b) columns → below + beside ≤ k → IsTrueAt rows (k + 1 - beside) r
    → IsCrossedAt columns rows i j k (r * n + i)
crossed_above columns rows i j k n below beside r wide hi hj pi qj count row past found =
    let before = found.before in
    let all = row ∙ counted_row columns in
    let is = crossing_above (λ x. get_or columns x false) (λ x. get_or rows x false) (length columns) (length rows) i j k r hi hj found.within pi qj found.here (omega arith) (omega arith) in
    subst (λ (w : ℕ). IsCrossedAt columns rows i j k (r * w + i)) (sym wide) (record { there = is.there; here = is.here; before = is.before })
