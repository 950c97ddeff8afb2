-- When hooks and columns have no fault, and which hooks no column hangs on.
use Rattle.std.proofs.Common.{◌≡◌, ◌≢◌, ◌⊎◌, inl, inr, ℕ, zero, suc, ◌+◌, ◌-◌, ◌<◌, ◌≤◌, ◌==◌, ◌||◌, Bool, true, false, cond, not, List, [], ◌∷◌, length, get_or, take, drop, filter, slice_index, All, AllPairs, Contains, Option, Some, None, is_some, sym, ap, subst, refl, ◌∙◌, ⊎_elim, IsTrue, ◌↔◌, arith}
use Rattle.std.specs.List.{range_with_len}
use Rattle.std.specs.List.Sorted.{IsStrictlyIncreasing}
use Rattle.std.specs.Option.{IsNone}
use Rattle.std.proofs.lemmas.Bool.{cases_Bool, cases_eq, cases_lt, both_ways, eq-eqb, ne_eqb, eqb-true, lt-ltb}
use Rattle.std.proofs.lemmas.List.{get_or-take, get_or-drop, length-take, length-drop, get_or_default, take_all, length-append}
use Rattle.std.proofs.lemmas.List.FromFn.{length-range_with_len}
use Rattle.std.proofs.lemmas.List.Elements.{filter-append, All-cons, All-nil}
use Rattle.std.proofs.lemmas.List.Folds.{list_any_more, list_any_at, list_any_none, Any-from_list_any}
use Rattle.std.proofs.lemmas.List.Kept.{AllPairs-from_increasing}
use Rattle.std.proofs.lemmas.Option.{none-some}
use Rattle.mill_base.proofs.lemmas.FirstAnswers.{none_all, none_each, nil_append}
use Rattle.mill_base.proofs.lemmas.Ranges.{range_more}
use Rattle.casting_out.specs.declared.fault.CastingFault.TheVariants.{HooksShort}
use Rattle.casting_out.specs.Castings.{CastingValue, IsCasting, casting_of, cast_out_hooks, column_of, idle, is_cast_out, live}
use Rattle.casting_out.specs.Faults.{place_fault, place_faults, short_faults, casting_faults, casting_fault, MakeCasting}
use Rattle.casting_out.proofs.Marks.{range_fault, twice_fault, no_fault, filter_alike, live_rise}
use Rattle.casting_out.proofs.Columns.{position_none}
use Rattle.casting_out.proofs.Holes.{live_not_cast, stands_live, hangs_on_none}
use Rattle.casting_out.proofs.Builds.{told_none}

-- ---- hooks on which no column hangs

hook_is_live : (casting : CastingValue) (c : ℕ) → IsCasting casting → c < length casting.columns
    → (c < length (live casting.hooks casting.cast_out)) × (slice_index casting.columns c ≡ slice_index (live casting.hooks casting.cast_out) c)
hook_is_live casting c is low =
    let n = length casting.columns in
    let all = live casting.hooks casting.cast_out in
    let long = length-take n all in
    let same = ap length is.first in
    (omega arith, ap (λ xs. slice_index xs c) is.first ∙ get_or-take n all c 0 low)

pub without_column : (casting : CastingValue) (h : ℕ) → IsCasting casting → h < casting.hooks → column_of casting.columns h ≡ None
    → IsTrue (is_cast_out casting.cast_out h) ⊎ Contains (idle casting) h
unfolding idle
without_column casting h is low none = ⊎_elim
    (λ (out : is_cast_out casting.cast_out h ≡ true). inl out)
    (λ (free : is_cast_out casting.cast_out h ≡ false).
    let n = length casting.columns in
    let all = live casting.hooks casting.cast_out in
    let there = stands_live casting.hooks casting.cast_out h low free in
    ⊎_elim
    (λ (used : there.0 < n).
    let own = hook_is_live casting there.0 is used in
    absurd (hangs_on_none casting.columns h there.0 none used (own.1 ∙ get_or_default all there.0 0 h there.1 ∙ there.2)))
    (λ (past : n ≤ there.0).
    let place : n + (there.0 - n) ≡ there.0 = omega arith in
    inr (there.0 - n, (let long = length-drop n all in let below = there.1 in omega arith), get_or-drop n all (there.0 - n) h ∙ ap (λ k. get_or all k h) place ∙ there.2))
    (cases_lt there.0 n))
    (cases_Bool (is_cast_out casting.cast_out h))

pub has_no_column : (casting : CastingValue) (h : ℕ) → IsCasting casting → IsTrue (is_cast_out casting.cast_out h) ⊎ Contains (idle casting) h → column_of casting.columns h ≡ None
unfolding idle
has_no_column casting h is why = position_none casting.columns h (λ c low e.
    let own = hook_is_live casting c is low in
    let n = length casting.columns in
    let all = live casting.hooks casting.cast_out in
    let here : slice_index all c ≡ h = sym own.1 ∙ e in
    ⊎_elim
    (λ (out : IsTrue (is_cast_out casting.cast_out h)).
    let free = live_not_cast casting.hooks casting.cast_out c 0 own.0 in
    both_ways (is_cast_out casting.cast_out h) (ap (is_cast_out casting.cast_out) (sym here) ∙ free) out)
    (λ (idles : Contains (drop n all) h).
    let long = length-drop n all in
    let below : idles.0 < length (drop n all) = idles.1 in
    let later = live_rise casting.hooks casting.cast_out c (n + idles.0) (omega arith) (omega arith) in
    let is_h : slice_index all (n + idles.0) ≡ h = sym (get_or-drop n all idles.0 0) ∙ get_or_default (drop n all) idles.0 0 h below ∙ idles.2 in
    absurd (omega arith))
    why)

-- none comes just where no column hangs
none_is : (o : Option ℕ) → is_some o ≡ false → o ≡ None
none_is None e = refl
none_is (Some x) e = absurd (cc)

pub none_exactly : (casting : CastingValue) (h : ℕ) (found : Option ℕ) → IsCasting casting → h < casting.hooks → found ≡ column_of casting.columns h
    → IsNone found ↔ (IsTrue (is_cast_out casting.cast_out h) ⊎ Contains (idle casting) h)
none_exactly casting h found is low same = (
  λ none. without_column casting h is low (sym same ∙ none_is found none),
  λ why. ap is_some (same ∙ has_no_column casting h is why),
)

-- ---- the faults of the places

-- a hook that stands at an earlier place
stands_before : (cast_out : List ℕ) (k hook : ℕ) → k ≤ length cast_out → is_cast_out (take k cast_out) hook ≡ true → (i : ℕ) × (i < k) × (slice_index cast_out i ≡ hook)
stands_before cast_out k hook within there =
    let w = Any-from_list_any (λ h. h == hook) (take k cast_out) there in
    let long = length-take k cast_out in
    let low : w.0 < k = omega (arith, w.2) in
    let inside : w.0 < length (take k cast_out) = w.2 in
    (w.0, low, sym (get_or-take k cast_out w.0 0 low) ∙ get_or_default (take k cast_out) w.0 0 w.1 inside ∙ w.3 ∙ eqb-true w.1 hook w.4)

stands_not_before : (cast_out : List ℕ) (k hook : ℕ) → k ≤ length cast_out → ((i : ℕ) → i < k → slice_index cast_out i ≢ hook) → is_cast_out (take k cast_out) hook ≡ false
stands_not_before cast_out k hook within apart =
    let long = length-take k cast_out in
    list_any_none (λ h. h == hook) (take k cast_out)
    (λ i d low. let inside : i < k = omega arith in ne_eqb (get_or (take k cast_out) i d) hook (λ e. apart i inside (sym (get_or-take k cast_out i 0 inside) ∙ get_or_default (take k cast_out) i 0 d low ∙ e)))

no_place_fault : (hooks : ℕ) (cast_out : List ℕ) → All (λ h. h < hooks) cast_out → AllPairs (λ g h. g ≢ h) cast_out → place_faults hooks cast_out (length cast_out) ≡ []
unfolding place_faults
no_place_fault hooks cast_out there once = none_all (place_fault hooks cast_out) (length cast_out)
    (λ k low. no_fault hooks cast_out k (slice_index cast_out k) low refl (there k 0 low)
    (stands_not_before cast_out k (slice_index cast_out k) (omega arith) (λ i before. once i k 0 before low)))

pub none_of_casting : (hooks : ℕ) (cast_out : List ℕ) (columns : ℕ) → MakeCasting hooks cast_out columns → casting_fault hooks cast_out columns ≡ None
none_of_casting hooks cast_out columns make = told_none hooks cast_out columns (no_place_fault hooks cast_out make.there make.once) make.enough

place_there : (hooks : ℕ) (cast_out : List ℕ) → place_faults hooks cast_out (length cast_out) ≡ [] → All (λ h. h < hooks) cast_out
unfolding place_faults
place_there hooks cast_out none k d low = subst (λ h. h < hooks) (get_or_default cast_out k 0 d low)
    (⊎_elim
    (λ (near : slice_index cast_out k < hooks). near)
    (λ (far : hooks ≤ slice_index cast_out k).
    absurd (none-some _ (sym (none_each (place_fault hooks cast_out) (length cast_out) k none low) ∙ range_fault hooks cast_out k (slice_index cast_out k) low refl far)))
    (cases_lt (slice_index cast_out k) hooks))

place_once : (hooks : ℕ) (cast_out : List ℕ) → place_faults hooks cast_out (length cast_out) ≡ [] → AllPairs (λ g h. g ≢ h) cast_out
unfolding place_faults
place_once hooks cast_out none i j d before low same =
    let again = list_any_at (λ h. h == slice_index cast_out j) (take j cast_out) i 0 (let long = length-take j cast_out in omega arith)
    (eq-eqb (get_or (take j cast_out) i 0) (slice_index cast_out j)
    (get_or-take j cast_out i 0 before ∙ get_or_default cast_out i 0 d (omega arith) ∙ same ∙ get_or_default cast_out j d 0 low)) in
    none-some _ (sym (none_each (place_fault hooks cast_out) (length cast_out) j none low)
    ∙ twice_fault hooks cast_out j (slice_index cast_out j) low refl (place_there hooks cast_out none j 0 low) again)

long_enough : (count columns : ℕ) → short_faults count columns ≡ [] → columns ≤ count
unfolding short_faults
long_enough count columns none = ⊎_elim
    (λ (short : count < columns).
    let fault : short_faults count columns ≡ HooksShort count columns ∷ [] = rw (lt-ltb count columns short) refl in
    absurd (omega (arith, ap length (sym fault ∙ none))))
    (λ (enough : columns ≤ count). enough) (cases_lt count columns)

pub casting_of_none : (hooks : ℕ) (cast_out : List ℕ) (columns : ℕ) → casting_fault hooks cast_out columns ≡ None → MakeCasting hooks cast_out columns
unfolding casting_fault casting_faults
casting_of_none hooks cast_out columns none =
    let parts = nil_append (place_faults hooks cast_out (length cast_out)) (short_faults (length (live hooks cast_out)) columns) none in
    record {
      there = place_there hooks cast_out parts.0;
      once = place_once hooks cast_out parts.0;
      enough = long_enough (length (live hooks cast_out)) columns parts.1;
    }

pub columns_of_none : (hooks : ℕ) (cast_out : List ℕ) (columns : ℕ) → casting_fault hooks cast_out columns ≡ None → length (casting_of hooks cast_out columns).columns ≡ columns
columns_of_none hooks cast_out columns none =
    let make = casting_of_none hooks cast_out columns none in
    let long = length-take columns (live hooks cast_out) in
    let enough = make.enough in
    omega arith

-- ---- how many hooks are live

pub all_live : (hooks : ℕ) → live hooks [] ≡ range_with_len 0 hooks
unfolding live
all_live hooks = every 0 hooks where
  every : (a n : ℕ) → filter (λ h. not (is_cast_out [] h)) (range_with_len a n) ≡ range_with_len a n
  every a zero = refl
  every a (suc n) = ap (λ hs. a ∷ hs) (every (a + 1) n)

length-filter_one : (q : ℕ → Bool) (n : ℕ) → length (filter q (n ∷ [])) ≡ cond (q n) 1 0
length-filter_one q n = of (q n) where
  of : (b : Bool) → length (cond b (n ∷ []) []) ≡ cond b 1 0
  of true = refl
  of false = refl

length-filter_more : (q : ℕ → Bool) (n : ℕ) → length (filter q (range_with_len 0 (suc n))) ≡ length (filter q (range_with_len 0 n)) + cond (q n) 1 0
length-filter_more q n =
    let e : n + 1 ≡ suc n = omega arith in
    ap (λ m. length (filter q (range_with_len 0 m))) (sym e) ∙ ap (λ xs. length (filter q xs)) (range_more 0 n n (omega arith))
    ∙ ap length (filter-append q (range_with_len 0 n) (n ∷ [])) ∙ length-append (filter q (range_with_len 0 n)) (filter q (n ∷ []))
    ∙ ap (λ m. length (filter q (range_with_len 0 n)) + m) (length-filter_one q n)

or_false : (b : Bool) → (b || false) ≡ b
or_false true = refl
or_false false = refl

-- one number less passes
one_less : (p : ℕ → Bool) (x n : ℕ) → x < n → p x ≡ false
    → length (filter (λ h. not (p h || (x == h))) (range_with_len 0 n)) + 1 ≡ length (filter (λ h. not (p h)) (range_with_len 0 n))
one_less p x zero low off = absurd (omega arith)
one_less p x (suc n) low off =
    let with_x : ℕ → Bool = λ h. not (p h || (x == h)) in
    let without : ℕ → Bool = λ h. not (p h) in
    let one = length-filter_more with_x n in
    let other = length-filter_more without n in
    ⊎_elim
    (λ (here : x ≡ n).
    let alike = ap length (filter_alike with_x without 0 n (λ h above below. ap not (ap (λ b. p h || b) (ne_eqb x h (λ e. absurd (omega arith))) ∙ or_false (p h)))) in
    let gone : cond {A = ℕ} (with_x n) 1 0 ≡ 0 = ap (λ b. cond {A = ℕ} (not b) 1 0) (ap (λ b. b || (x == n)) (ap p (sym here) ∙ off) ∙ eq-eqb x n here) in
    let kept : cond {A = ℕ} (without n) 1 0 ≡ 1 = ap (λ b. cond {A = ℕ} (not b) 1 0) (ap p (sym here) ∙ off) in
    omega arith)
    (λ (before : x ≢ n).
    let fewer = one_less p x n (omega arith) off in
    let same : cond {A = ℕ} (with_x n) 1 0 ≡ cond {A = ℕ} (without n) 1 0 = ap (λ b. cond {A = ℕ} (not b) 1 0) (ap (λ b. p n || b) (ne_eqb x n before) ∙ or_false (p n)) in
    omega arith)
    (cases_eq x n)

live_left : (hooks : ℕ) (cast_out : List ℕ) (k : ℕ) → k ≤ length cast_out → All (λ h. h < hooks) cast_out → AllPairs (λ g h. g ≢ h) cast_out → length (live hooks (take k cast_out)) + k ≡ hooks
unfolding live
live_left hooks cast_out zero within there once = let all = ap length (all_live hooks) in let long = length-range_with_len 0 hooks in omega arith
live_left hooks cast_out (suc k) within there once =
    let x = slice_index cast_out k in
    let before : ℕ → Bool = is_cast_out (take k cast_out) in
    let e : k + 1 ≡ suc k = omega arith in
    let more : live hooks (take (suc k) cast_out) ≡ filter (λ h. not (before h || (x == h))) (range_with_len 0 hooks) =
    ap (λ n. live hooks (take n cast_out)) (sym e)
    ∙ filter_alike (λ h. not (is_cast_out (take (k + 1) cast_out) h)) (λ h. not (before h || (x == h))) 0 hooks
    (λ h above below. ap not (list_any_more (λ y. y == h) cast_out k 0 (omega arith))) in
    let fewer = one_less before x hooks (there k 0 (omega arith)) (stands_not_before cast_out k x (omega arith) (λ i low. once i k 0 low (omega arith))) in
    let left = live_left hooks cast_out k (omega arith) there once in
    let long = ap length more in
    omega arith

pub length-live_rest : (hooks : ℕ) (cast_out : List ℕ) → All (λ h. h < hooks) cast_out → AllPairs (λ g h. g ≢ h) cast_out → length (live hooks cast_out) + length cast_out ≡ hooks
length-live_rest hooks cast_out there once =
    ap (λ xs. length (live hooks xs) + length cast_out) (sym (take_all (length cast_out) cast_out (omega arith))) ∙ live_left hooks cast_out (length cast_out) (omega arith) there once

-- ---- hooks in rising order

rising_once : (cast_out : List ℕ) → IsStrictlyIncreasing cast_out → AllPairs (λ g h. g ≢ h) cast_out
rising_once cast_out rising i j d before low same = let less = AllPairs-from_increasing cast_out rising i j d before low in absurd (omega (arith, same))

pub rising_none : (hooks : ℕ) (cast_out : List ℕ) (columns : ℕ) → All (λ h. h < hooks) cast_out → IsStrictlyIncreasing cast_out → columns + length cast_out ≤ hooks → casting_fault hooks cast_out columns ≡ None
rising_none hooks cast_out columns there rising few = none_of_casting hooks cast_out columns (record {
  there = there;
  once = rising_once cast_out rising;
  enough = (let count = length-live_rest hooks cast_out there (rising_once cast_out rising) in omega arith);
})

-- rising numbers of a range are those of its numbers that stand among them
kept_between : (a n : ℕ) (xs : List ℕ) → All (λ h. a ≤ h) xs → All (λ h. h < a + n) xs → AllPairs (λ x y. x < y) xs → filter (is_cast_out xs) (range_with_len a n) ≡ xs
kept_between a zero [] above below rising = refl
kept_between a zero (x ∷ xs) above below rising = absurd (let low = above 0 0 (omega arith) in let high = below 0 0 (omega arith) in omega arith)
kept_between a (suc n) [] above below rising = kept_between (a + 1) n [] (All-nil (λ h. a + 1 ≤ h)) (All-nil (λ h. h < a + 1 + n)) rising
kept_between a (suc n) (x ∷ xs) above below rising =
    let low : a ≤ x = above 0 0 (omega arith) in
    let later : All (λ y. x < y) xs = λ k d h. rising 0 (suc k) d (omega arith) (omega arith) in
    let rest : AllPairs (λ y z. y < z) xs = λ i j d before h. rising (suc i) (suc j) d (omega arith) (omega arith) in
    let under : All (λ y. y < a + 1 + n) xs = λ k d h. (let u = below (suc k) d (omega arith) in omega arith) in
    ⊎_elim
    (λ (here : x ≡ a).
    ap (λ b. cond b (a ∷ filter (is_cast_out (x ∷ xs)) (range_with_len (a + 1) n)) (filter (is_cast_out (x ∷ xs)) (range_with_len (a + 1) n)))
    (ap (λ b. b || is_cast_out xs a) (eq-eqb x a here))
    ∙ ap (λ ys. a ∷ ys)
    (filter_alike (is_cast_out (x ∷ xs)) (is_cast_out xs) (a + 1) n (λ h from to. ap (λ b. b || is_cast_out xs h) (ne_eqb x h (λ e. absurd (omega arith))))
    ∙ kept_between (a + 1) n xs (λ k d h. let l = later k d h in omega arith) under rest)
    ∙ ap (λ y. y ∷ xs) (sym here))
    (λ (apart : x ≢ a).
    ap (λ b. cond b (a ∷ filter (is_cast_out (x ∷ xs)) (range_with_len (a + 1) n)) (filter (is_cast_out (x ∷ xs)) (range_with_len (a + 1) n)))
    (list_any_none (λ h. h == a) (x ∷ xs) (All-cons (λ y. (y == a) ≡ false) x xs (ne_eqb x a apart) (λ k d h. ne_eqb (get_or xs k d) a (λ e. let l = later k d h in absurd (omega arith)))))
    ∙ kept_between (a + 1) n (x ∷ xs)
    (All-cons (λ y. a + 1 ≤ y) x xs (omega arith) (λ k d h. let l = later k d h in omega arith))
    (λ k d h. let u = below k d h in omega arith) rising)
    (cases_eq x a)

pub rising_kept : (hooks : ℕ) (cast_out : List ℕ) → All (λ h. h < hooks) cast_out → IsStrictlyIncreasing cast_out → cast_out_hooks hooks cast_out ≡ cast_out
unfolding cast_out_hooks
rising_kept hooks cast_out there rising = kept_between 0 hooks cast_out (λ k d low. omega arith) (λ k d low. let h = there k d low in omega arith) (AllPairs-from_increasing cast_out rising)

pub full_none : (hooks columns : ℕ) → columns ≤ hooks → casting_fault hooks [] columns ≡ None
full_none hooks columns enough = rising_none hooks [] columns (All-nil (λ h. h < hooks)) (λ k low. absurd (omega (arith, low))) (omega arith)
