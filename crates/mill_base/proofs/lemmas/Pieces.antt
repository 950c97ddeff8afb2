-- A list of places that is written out piece by piece, and rows that are carried by it: `f` has the places of a piece.
use Rattle.std.proofs.Common.{◌≡◌, ◌+◌, ◌-◌, ◌<◌, ◌≤◌, ◌==◌, ◌&&◌, ◌||◌, ◌≢◌, ◌⊎◌, ℕ, Bool, true, false, List, [], ◌∷◌, ◌++◌, length, get_or, take, drop, replicate, flat_map, sym, ap, subst, refl, ◌∙◌, ⊎_elim, arith, length-append, length-take, length-drop}
use Rattle.std.specs.List.{AllAdjacentBelow}
use Rattle.std.proofs.Math.Seq.{take-add}
use Rattle.std.proofs.lemmas.Bool.{cases_lt, eq-eqb, ne_eqb}
use Rattle.std.proofs.lemmas.List.{ext_get_or, take_more, take_all, append-nil, get_or-take, get_or-drop, get_or_append_left, get_or_push, length_push, get_or-replicate, length-replicate, get_or_past}
use Rattle.std.proofs.lemmas.List.Concat.{flat_map-append, get_or-flat_map}
use Rattle.std.proofs.lemmas.List.Folds.{length-flat_map-take}
use Rattle.mill_base.specs.Below.{any_below}
use Rattle.mill_base.specs.Lines.{line_by}
use Rattle.mill_base.specs.Stretches.{IsLaid}
use Rattle.mill_base.proofs.lemmas.Belows.{any_alike, any_none, any_only, any_further}
use Rattle.mill_base.proofs.lemmas.Lines.{line_is}

-- ---- the pieces

pub pieces_more : {A : Type 0} (f : A → List ℕ) (xs : List A) (x : A) → flat_map f (xs ++ x ∷ []) ≡ flat_map f xs ++ f x
pieces_more f xs x = flat_map-append f xs (x ∷ []) ∙ ap (λ ys. flat_map f xs ++ ys) (append-nil (f x))

-- piece k begins at place `at` of the list
pub record Begins {A : Type 0} (f : A → List ℕ) (xs : List A) (k at : ℕ) : Type 0 where
  pub place : at ≡ length (flat_map f (take k xs))

pub begins_first : {A : Type 0} (f : A → List ℕ) (xs : List A) → Begins f xs 0 0
begins_first f xs = record { place = refl }

pub begins_next : {A : Type 0} (f : A → List ℕ) (xs : List A) (k at count : ℕ) (x : A) → k < length xs → length (f (get_or xs k x)) ≡ count → Begins f xs k at → Begins f xs (k + 1) (at + count)
begins_next f xs k at count x h long begins = record {
  place = let next = ap (λ ys. length (flat_map f ys)) (take_more xs k x h) ∙ ap length (pieces_more f (take k xs) (get_or xs k x))
      ∙ length-append (flat_map f (take k xs)) (f (get_or xs k x)) in
      let place = begins.place in
      omega arith;
}

pub begins_past : {A : Type 0} (f : A → List ℕ) (xs : List A) (k at : ℕ) → length xs ≤ k → Begins f xs k at → at ≡ length (flat_map f xs)
begins_past f xs k at h begins = begins.place ∙ ap (λ ys. length (flat_map f ys)) (take_all k xs h)

pub piece_within : {A : Type 0} (f : A → List ℕ) (xs : List A) (k at count : ℕ) (x : A) → k < length xs → length (f (get_or xs k x)) ≡ count → Begins f xs k at
    → at + count ≤ length (flat_map f xs)
piece_within f xs k at count x h long begins =
    let most = length-flat_map-take f xs k x h in
    let place = begins.place in
    omega arith

pub piece_at : {A : Type 0} (f : A → List ℕ) (xs : List A) (k at count i : ℕ) (x : A) → k < length xs → length (f (get_or xs k x)) ≡ count → Begins f xs k at → i < count
    → get_or (flat_map f xs) (at + i) 0 ≡ get_or (f (get_or xs k x)) i 0
piece_at f xs k at count i x h long begins low =
    ap (λ n. get_or (flat_map f xs) (n + i) 0) begins.place ∙ get_or-flat_map f xs k i x 0 h (subst (λ n. i < n) (sym long) low)

-- ---- cutting

-- one more piece, which has the next places of the list
pub cut_more : {A : Type 0} (f : A → List ℕ) (xs : List A) (x : A) (list : List ℕ) (at count : ℕ) → flat_map f xs ≡ take at list → length (f x) ≡ count → at + count ≤ length list
    → ((i : ℕ) → i < count → get_or (f x) i 0 ≡ get_or list (at + i) 0) → flat_map f (xs ++ x ∷ []) ≡ take (at + count) list
cut_more f xs x list at count before long room same =
    pieces_more f xs x ∙ ap (λ ys. ys ++ f x) before ∙ ap (λ ys. take at list ++ ys) piece ∙ sym (take-add at count list) where
      piece : f x ≡ take count (drop at list)
      piece =
          let rest = length-drop at list in
          let front = length-take count (drop at list) in
          ext_get_or 0 (f x) (take count (drop at list)) (omega arith)
          (λ i h. let low : i < count = omega arith in same i low ∙ sym (get_or-drop at list i 0) ∙ sym (get_or-take count (drop at list) i 0 low))

-- each item and the next, with one more item
pub adjacent_push : {A : Type 0} (R : A → A → Type 0) (xs all : List A) (x : A) → all ≡ xs ++ x ∷ [] → AllAdjacentBelow R xs (length xs)
    → ((k : ℕ) (d : A) → k + 1 ≡ length xs → R (get_or xs k d) x) → AllAdjacentBelow R all (length all)
adjacent_push {A} R xs all x are before last k d h =
    let long = ap length are ∙ length_push xs x in
    let here : get_or (xs ++ x ∷ []) k d ≡ get_or xs k d = get_or_append_left xs (x ∷ []) d k (omega arith) in
    subst (λ (ys : List A). R (get_or ys k d) (get_or ys (k + 1) d)) (sym are)
    (subst (λ y. R y (get_or (xs ++ x ∷ []) (k + 1) d)) (sym here)
    (⊎_elim
    (λ (early : k + 1 < length xs). subst (R (get_or xs k d)) (sym (get_or_append_left xs (x ∷ []) d (k + 1) early)) (before k d early))
    (λ (late : length xs ≤ k + 1).
    let next : length xs ≡ k + 1 = omega arith in
    subst (R (get_or xs k d)) (sym (get_or_push xs x d (k + 1) next)) (last k d (sym next)))
    (cases_lt (k + 1) (length xs))))

-- ---- a line that gets what a row has at the places

-- the positions of the line below `at`, where piece k begins, have what the row has at their places
pub record IsLaidTo {A : Type 0} (f : A → List ℕ) (xs : List A) (k at : ℕ) (row line : List Bool) : Type 0 where
  pub begins : Begins f xs k at
  pub len : length line ≡ length (flat_map f xs)
  pub laid : (e : ℕ) → e < at → get_or line e false ≡ get_or row (get_or (flat_map f xs) e 0) false

pub none_laid_to : {A : Type 0} (f : A → List ℕ) (xs : List A) (row line : List Bool) → length line ≡ length (flat_map f xs) → IsLaidTo f xs 0 0 row line
none_laid_to f xs row line len = record { begins = begins_first f xs; len = len; laid = λ e below. absurd (omega arith) }

pub more_laid_to : {A : Type 0} (f : A → List ℕ) (xs : List A) (k at count : ℕ) (x : A) (place : ℕ → ℕ) (row line new : List Bool) → k < length xs → length (f (get_or xs k x)) ≡ count
    → ((i : ℕ) → i < count → get_or (f (get_or xs k x)) i 0 ≡ place i) → IsLaidTo f xs k at row line
    → IsLaid line at count (λ i. get_or row (place i) false) new → IsLaidTo f xs (k + 1) (at + count) row new
more_laid_to f xs k at count x place row line new h long places before laid = record {
  begins = begins_next f xs k at count x h long before.begins;
  len = laid.len ∙ before.len;
  laid = λ e below. ⊎_elim
      (λ (early : e < at). laid.below e early ∙ before.laid e early)
      (λ (late : at ≤ e).
      let whole : e ≡ at + (e - at) = omega arith in
      ap (λ n. get_or new n false) whole ∙ laid.here (e - at) (omega arith)
      ∙ ap (λ n. get_or row n false) (sym (piece_at f xs k at count (e - at) x h long before.begins (omega arith) ∙ places (e - at) (omega arith)))
      ∙ ap (λ n. get_or row (get_or (flat_map f xs) n 0) false) (sym whole))
      (cases_lt e at);
}

pub all_laid_to : {A : Type 0} (f : A → List ℕ) (xs : List A) (k at : ℕ) (row line : List Bool) → length xs ≤ k → IsLaidTo f xs k at row line
    → line ≡ line_by (length (flat_map f xs)) (λ e. get_or row (get_or (flat_map f xs) e 0) false)
all_laid_to f xs k at row line past laid =
    let whole = begins_past f xs k at past laid.begins in
    line_is false line (length (flat_map f xs)) (λ e. get_or row (get_or (flat_map f xs) e 0) false) laid.len (λ e h. laid.laid e (omega arith))

-- ---- a row of which a range is joined with other truth values

-- a row that is false everywhere
pub all_false : (n k : ℕ) → get_or (replicate n false) k false ≡ false
all_false n k = ⊎_elim
    (λ (low : k < n). get_or-replicate n k false false low)
    (λ (past : n ≤ k). get_or_past (replicate n false) k false (subst (λ m. m ≤ k) (sym (length-replicate n false)) past)) (cases_lt k n)

-- a place is in a range, before it or past it
pub in_range : (at count p : ℕ) → ((at ≤ p) × (p < at + count)) ⊎ ((p < at) ⊎ (at + count ≤ p))
in_range at count p = grind arith

-- the place of one position alone is joined with its truth value
pub joined_here : (place : ℕ → ℕ) (cell : ℕ → Bool) (count i p : ℕ) (was now : Bool) → i < count → place i ≡ p → ((k : ℕ) → k < count → k ≢ i → place k ≢ p) → now ≡ (was || cell i)
    → now ≡ (was || any_below (λ k. (place k == p) && cell k) count)
joined_here place cell count i p was now low here others is =
    is
    ∙ ap (λ b. was || b)
    (sym (any_only (λ k. (place k == p) && cell k) count i low (λ k h ne. ap (λ b. b && cell k) (ne_eqb (place k) p (others k h ne))) ∙ ap (λ b. b && cell i) (eq-eqb (place i) p here)))

-- the place of no position stays
pub joined_nowhere : (place : ℕ → ℕ) (cell : ℕ → Bool) (count p : ℕ) (was now : Bool) → ((k : ℕ) → k < count → place k ≢ p) → now ≡ was → now ≡ (was || any_below (λ k. (place k == p) && cell k) count)
joined_nowhere place cell count p was now none is =
    is ∙ sym (ap (λ b. was || b) (any_none (λ k. (place k == p) && cell k) count (λ k h. ap (λ b. b && cell k) (ne_eqb (place k) p (none k h)))) ∙ or_false was) where
      or_false : (b : Bool) → (b || false) ≡ b
      or_false true = refl
      or_false false = refl

-- ---- a row whose places become true where the line is

-- a position of the line that is true has this place
abbrev pub reaches : List ℕ → List Bool → ℕ → ℕ → Bool
reaches list line place e = (get_or list e 0 == place) && get_or line e false

-- a place is true where a position of it below `at`, where piece k begins, is
pub record IsGatheredTo {A : Type 0} (f : A → List ℕ) (xs : List A) (k at : ℕ) (line : List Bool) (wide : ℕ) (row : List Bool) : Type 0 where
  pub begins : Begins f xs k at
  pub len : length row ≡ wide
  pub gathered : (p : ℕ) → get_or row p false ≡ any_below (reaches (flat_map f xs) line p) at

pub none_gathered_to : {A : Type 0} (f : A → List ℕ) (xs : List A) (line : List Bool) (wide : ℕ) (row : List Bool) → length row ≡ wide → ((p : ℕ) → get_or row p false ≡ false)
    → IsGatheredTo f xs 0 0 line wide row
none_gathered_to f xs line wide row len clear = record { begins = begins_first f xs; len = len; gathered = clear }

pub more_gathered_to : {A : Type 0} (f : A → List ℕ) (xs : List A) (k at count : ℕ) (x : A) (place : ℕ → ℕ) (line : List Bool) (wide : ℕ) (row new : List Bool) → k < length xs → length (f (get_or xs k x)) ≡ count
    → ((i : ℕ) → i < count → get_or (f (get_or xs k x)) i 0 ≡ place i) → IsGatheredTo f xs k at line wide row → length new ≡ length row
    → ((p : ℕ) → get_or new p false ≡ (get_or row p false || any_below (λ i. (place i == p) && get_or line (at + i) false) count))
    → IsGatheredTo f xs (k + 1) (at + count) line wide new
more_gathered_to f xs k at count x place line wide row new h long places before len each = record {
  begins = begins_next f xs k at count x h long before.begins;
  len = len ∙ before.len;
  gathered = λ p.
      let here : ℕ → Bool = λ i. (place i == p) && get_or line (at + i) false in
      let all = reaches (flat_map f xs) line p in
      each p ∙ ap (λ b. b || any_below here count) (before.gathered p)
      ∙ ap (λ b. any_below all at || b)
      (any_alike here (λ i. all (at + i)) count (λ i low. ap (λ n. (n == p) && get_or line (at + i) false) (sym (piece_at f xs k at count i x h long before.begins low ∙ places i low))))
      ∙ sym (any_further all at count);
}

pub all_gathered_to : {A : Type 0} (f : A → List ℕ) (xs : List A) (k at : ℕ) (line : List Bool) (wide : ℕ) (row : List Bool) → length xs ≤ k → IsGatheredTo f xs k at line wide row
    → row ≡ line_by wide (λ p. any_below (reaches (flat_map f xs) line p) (length (flat_map f xs)))
all_gathered_to f xs k at line wide row past so_far =
    line_is false row wide (λ p. any_below (reaches (flat_map f xs) line p) (length (flat_map f xs))) so_far.len
    (λ p h. so_far.gathered p ∙ ap (any_below (reaches (flat_map f xs) line p)) (begins_past f xs k at past so_far.begins))
