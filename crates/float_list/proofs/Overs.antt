-- How many floats of a line are over their limit.
use Rattle.std.proofs.Common.{◌≡◌, ◌<◌, ◌≤◌, ℕ, Bool, true, false, List, [], ◌∷◌, ◌++◌, length, map, filter, take, Some, None, refl, sym, ap, subst, ◌∙◌, ⊎_elim, arith}
use Rattle.std.specs.List.{find, range_with_len}
use Rattle.std.proofs.lemmas.Bool.{cases_Bool, cond-true, cond-false}
use Rattle.std.proofs.lemmas.List.{length-map}
use Rattle.std.proofs.lemmas.List.Sums.{count_by-le-length, length-filter}
use Rattle.std.proofs.lemmas.List.FromFn.{length-range_with_len}
use Rattle.cloth_floats.specs.declared.Run.{Run}
use Rattle.cloth_floats.specs.Floats.{runs_of, float_at, starts_at, is_uniform, is_over, first_long_of}
use Rattle.cloth_floats.proofs.Listed.{runs_uniform, runs_mixed}
use Rattle.float_list.specs.declared.long_float.Limits.{Limits}
use Rattle.float_list.specs.declared.long_float.LongFloat.{LongFloat}
use Rattle.float_list.specs.Floats.{over_limit}

pub few_pass : {X : Type 0} (p : X → Bool) (xs : List X) → length (filter p xs) ≤ length xs
few_pass p xs = subst (λ n. n ≤ length xs) (sym (length-filter p xs)) (count_by-le-length p xs)

-- a line has no more floats than cells
pub few_runs : (line : List Bool) → 0 < length line → length (runs_of line) ≤ length line
few_runs line some = ⊎_elim
    (λ (uniform : is_uniform line ≡ true). let one = ap length (runs_uniform line uniform) in omega (arith, one, some))
    (λ (mixed : is_uniform line ≡ false).
    let starts = few_pass (starts_at line) (range_with_len 0 (length line)) in
    let range = length-range_with_len 0 (length line) in
    let many = ap length (runs_mixed line mixed) ∙ length-map (filter (starts_at line) (range_with_len 0 (length line))) (float_at line) in
    omega (arith, starts, range, many))
    (cases_Bool (is_uniform line))

pub few_over : (limits : Limits) (line : ℕ) (cells : List Bool) → 0 < length cells → length (over_limit limits line cells) ≤ length cells
unfolding over_limit
few_over limits line cells some =
    let on : Run → LongFloat = λ (run : Run). record { kind = limits.kind; line = line; run = run } in
    let over = few_pass (is_over limits.lifted limits.unlifted) (runs_of cells) in
    let all = few_runs cells some in
    let long = length-map (filter (is_over limits.lifted limits.unlifted) (runs_of cells)) on in
    omega (arith, over, all, long)

-- none is over its limit where no first one is
none_pass : {X : Type 0} (p : X → Bool) (xs : List X) → find p xs ≡ None → filter p xs ≡ []
none_pass p [] none = refl
none_pass p (x ∷ xs) none = ⊎_elim
    (λ (e : p x ≡ true). absurd (let is = sym (cond-true (p x) (Some x) (find p xs) e) ∙ none in cc))
    (λ (e : p x ≡ false).
    cond-false (p x) (x ∷ filter p xs) (filter p xs) e
    ∙ none_pass p xs (sym (cond-false (p x) (Some x) (find p xs) e) ∙ none))
    (cases_Bool (p x))

pub none_over : (limits : Limits) (line : ℕ) (cells : List Bool) → first_long_of cells limits.lifted limits.unlifted ≡ None → over_limit limits line cells ≡ []
unfolding over_limit first_long_of
none_over limits line cells none =
    let on : Run → LongFloat = λ (run : Run). record { kind = limits.kind; line = line; run = run } in
    ap (map on) (none_pass (is_over limits.lifted limits.unlifted) (runs_of cells) none)

-- the floats of the line that was followed
pub count_over : (limits : Limits) (line : ℕ) (cells : List Bool) (runs : List Run) (count : ℕ) → runs ≡ runs_of cells
    → count ≡ length (filter (is_over limits.lifted limits.unlifted) runs) → count ≡ length (over_limit limits line cells)
unfolding over_limit
count_over limits line cells runs count are counted =
    let on : Run → LongFloat = λ (run : Run). record { kind = limits.kind; line = line; run = run } in
    counted ∙ ap (λ (rs : List Run). length (filter (is_over limits.lifted limits.unlifted) rs)) are
    ∙ sym (length-map (filter (is_over limits.lifted limits.unlifted) (runs_of cells)) on)

pub listed_over : (n : ℕ) (limits : Limits) (line : ℕ) (cells : List Bool) (runs : List Run) (now next : List LongFloat) → runs ≡ runs_of cells
    → next ≡ take n (now ++ map (λ (run : Run). record { kind = limits.kind; line = line; run = run }) (filter (is_over limits.lifted limits.unlifted) runs))
    → next ≡ take n (now ++ over_limit limits line cells)
unfolding over_limit
listed_over n limits line cells runs now next are then =
    let on : Run → LongFloat = λ (run : Run). record { kind = limits.kind; line = line; run = run } in
    then ∙ ap (λ (rs : List Run). take n (now ++ map on (filter (is_over limits.lifted limits.unlifted) rs))) are
