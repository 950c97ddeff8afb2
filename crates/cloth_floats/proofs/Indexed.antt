-- The floats of a line by their place in the list.
use Rattle.std.proofs.Common.{drop, ◌≡◌, ◌≢◌, ℕ, zero, suc, ◌+◌, ◌-◌, ◌<◌, ◌≤◌, Bool, true, false, List, [], ◌∷◌, length, get_or, ◌⊎◌, inl, inr, Option, Some, None, refl, sym, ap, ◌∙◌, subst, ⊎_elim, arith}
use Rattle.std.specs.Prelude.{slice_get, All, IfSome}
use Rattle.std.specs.List.{find}
use Rattle.std.proofs.lemmas.Option.{slice_get-get_or}
use Rattle.std.proofs.lemmas.Bool.{cases_Bool, cases_eq, cond-true, cond-false}
use Rattle.cloth_floats.specs.declared.Run.{Run}
use Rattle.cloth_floats.specs.Floats.{starts_at, length_at, is_uniform, float_at, endless_float, runs_of, is_over, first_long_of, IsFirstStart, IsOnLine}
use Rattle.cloth_floats.proofs.Lengths.{length_is, start_behind, some_length}
use Rattle.cloth_floats.proofs.Listed.{floats_in, floats_from, in_one, in_none, from_end, from_next, one_more, all_from_first, runs_uniform, runs_mixed}

-- a float of a list starts within its positions, and those behind it in the list start past it
pub record IsListed (line : List Bool) (x many i : ℕ) (run : Run) : Type 0 where
  pub low : x ≤ run.start
  pub high : run.start < x + many
  pub starts : starts_at line run.start ≡ true
  pub is : run ≡ float_at line run.start
  pub next : slice_get (floats_in line x many) (i + 1) ≡ slice_get (floats_in line (run.start + 1) (x + many - (run.start + 1))) 0

pub listed : (line : List Bool) (x many i : ℕ) (run : Run) → slice_get (floats_in line x many) i ≡ Some run → IsListed line x many i run
listed line x zero i run is = absurd (cc)
listed line x (suc many) i run is = ⊎_elim
    (λ (starts : starts_at line x ≡ true). here line x many i run starts (ap (λ xs. slice_get xs i) (sym (in_one line x many starts)) ∙ is) (listed line (x + 1) many))
    (λ (none : starts_at line x ≡ false).
    let e = in_none line x many none in
    let rest = listed line (x + 1) many i run (ap (λ xs. slice_get xs i) (sym e) ∙ is) in
    record {
      low = let low = rest.low in omega arith;
      high = let high = rest.high in omega arith;
      starts = rest.starts;
      is = rest.is;
      next = ap (λ xs. slice_get xs (i + 1)) e ∙ rest.next ∙ ap (λ m. slice_get (floats_in line (run.start + 1) m) 0) (omega arith);
    })
    (cases_Bool (starts_at line x)) where
      here : (line : List Bool) (x many i : ℕ) (run : Run) → starts_at line x ≡ true → slice_get (float_at line x ∷ floats_in line (x + 1) many) i ≡ Some run
          → ((i : ℕ) (run : Run) → slice_get (floats_in line (x + 1) many) i ≡ Some run → IsListed line (x + 1) many i run) → IsListed line x (suc many) i run
      here line x many zero run starts is rest =
          let same_run : float_at line x ≡ run = cc in
          let at : x ≡ run.start = ap (λ (r : Run). r.start) same_run in
          record {
            low = omega arith;
            high = omega arith;
            starts = sym (ap (starts_at line) at) ∙ starts;
            is = sym same_run ∙ ap (float_at line) at;
            next = ap (λ xs. slice_get xs 1) (in_one line x many starts)
                ∙ ap (λ y. slice_get (floats_in line (y + 1) many) 0) at ∙ ap (λ m. slice_get (floats_in line (run.start + 1) m) 0) (omega arith);
          }
      here line x many (suc i) run starts is rest =
          let more = rest i run is in
          record {
            low = let low = more.low in omega arith;
            high = let high = more.high in omega arith;
            starts = more.starts;
            is = more.is;
            next = ap (λ xs. slice_get xs (suc i + 1)) (in_one line x many starts)
                ∙ ap (slice_get (float_at line x ∷ floats_in line (x + 1) many)) (let e : suc i + 1 ≡ suc (i + 1) = omega arith in e)
                ∙ more.next ∙ ap (λ m. slice_get (floats_in line (run.start + 1) m) 0) (omega arith);
          }

-- each start has a place in the list
pub place_of : (line : List Bool) (x many y : ℕ) → x ≤ y → y < x + many → starts_at line y ≡ true → (i : ℕ) × (slice_get (floats_in line x many) i ≡ Some (float_at line y))
place_of line x zero y low high starts = absurd (omega arith)
place_of line x (suc many) y low high starts = ⊎_elim
    (λ (here : y ≡ x). (0, ap (λ xs. slice_get xs 0) (in_one line x many (sym (ap (starts_at line) here) ∙ starts)) ∙ ap (λ z. Some (float_at line z)) (sym here)))
    (λ (off : y ≢ x).
    let rest = place_of line (x + 1) many y (omega arith) (omega arith) starts in
    ⊎_elim
    (λ (e : starts_at line x ≡ true). (suc rest.0, ap (λ xs. slice_get xs (suc rest.0)) (in_one line x many e) ∙ rest.1))
    (λ (e : starts_at line x ≡ false). (rest.0, ap (λ xs. slice_get xs rest.0) (in_none line x many e) ∙ rest.1))
    (cases_Bool (starts_at line x)))
    (cases_eq y x)

-- the float at a place of the list: the endless one at the first place, or one that starts
pub run_at : (line : List Bool) (i : ℕ) (run : Run) → slice_get (runs_of line) i ≡ Some run
    → ((is_uniform line ≡ true) × (i ≡ 0) × (run ≡ endless_float line)) ⊎ ((is_uniform line ≡ false) × IsListed line 0 (length line) i run)
run_at line i run is = ⊎_elim
    (λ (uniform : is_uniform line ≡ true). inl (only uniform i (ap (λ xs. slice_get xs i) (sym (runs_uniform line uniform)) ∙ is)))
    (λ (mixed : is_uniform line ≡ false). inr (mixed, listed line 0 (length line) i run (ap (λ xs. slice_get xs i) (sym (runs_mixed line mixed)) ∙ is)))
    (cases_Bool (is_uniform line)) where
      only : is_uniform line ≡ true → (i : ℕ) → slice_get (endless_float line ∷ []) i ≡ Some run → (is_uniform line ≡ true) × (i ≡ 0) × (run ≡ endless_float line)
      only uniform zero e = (uniform, refl, cc)
      only uniform (suc i) e = absurd (cc)

-- every float of the list is on the line
pub on_line : (line : List Bool) (i : ℕ) (run : Run) → 0 < length line → slice_get (runs_of line) i ≡ Some run → IsOnLine line run
on_line line i run some is = ⊎_elim
    (λ (whole : (is_uniform line ≡ true) × (i ≡ 0) × (run ≡ endless_float line)). subst (λ (r : Run). IsOnLine line r) (sym whole.2) (record { start = some; some = some; within = omega arith }))
    (λ (part : (is_uniform line ≡ false) × IsListed line 0 (length line) i run).
    subst (λ (r : Run). IsOnLine line r) (sym part.1.is) (record {
      start = let high = part.1.high in omega arith;
      some = some_length line run.start some;
      within = (length_is line run.start).within;
    }))
    (run_at line i run is)

-- what follows a float in the list: nothing where it ends at the line's end or past it, else the float that starts there
behind_float : (line : List Bool) (i : ℕ) (run : Run) → IsListed line 0 (length line) i run → is_uniform line ≡ false
    → slice_get (runs_of line) (i + 1) ≡ slice_get (floats_from line (run.start + length_at line run.start)) 0
behind_float line i run at mixed =
    let some : 0 < length line = (let high = at.high in omega arith) in
    ap (λ xs. slice_get xs (i + 1)) (runs_mixed line mixed) ∙ at.next
    ∙ ap (λ xs. slice_get xs 0) (from_next line run.start some)

pub next_none : (line : List Bool) (i : ℕ) (run : Run) → length line ≤ run.start + run.length → slice_get (runs_of line) i ≡ Some run
    → None ≡ slice_get (runs_of line) (i + 1)
next_none line i run past is = ⊎_elim
    (λ (whole : (is_uniform line ≡ true) × (i ≡ 0) × (run ≡ endless_float line)).
    sym (ap (λ xs. slice_get xs (i + 1)) (runs_uniform line whole.0) ∙ ap (λ k. slice_get (endless_float line ∷ []) (k + 1)) whole.1))
    (λ (part : (is_uniform line ≡ false) × IsListed line 0 (length line) i run).
    let many : run.length ≡ length_at line run.start = ap (λ (r : Run). r.length) part.1.is in
    sym (behind_float line i run part.1 part.0 ∙ ap (λ xs. slice_get xs 0) (from_end line (run.start + length_at line run.start) (omega arith))))
    (run_at line i run is)

pub next_some : (line : List Bool) (i : ℕ) (run next : Run) → run.start + run.length < length line → next ≡ float_at line (run.start + run.length)
    → slice_get (runs_of line) i ≡ Some run → Some next ≡ slice_get (runs_of line) (i + 1)
next_some line i run next before next_is is = ⊎_elim
    (λ (whole : (is_uniform line ≡ true) × (i ≡ 0) × (run ≡ endless_float line)).
    let start = ap (λ (r : Run). r.start) whole.2 in
    let many = ap (λ (r : Run). r.length) whole.2 in
    absurd (omega arith))
    (λ (part : (is_uniform line ≡ false) × IsListed line 0 (length line) i run).
    let many : run.length ≡ length_at line run.start = ap (λ (r : Run). r.length) part.1.is in
    let at : run.start + length_at line run.start < length line = omega arith in
    ap Some (next_is ∙ ap (λ m. float_at line (run.start + m)) many)
    ∙ sym (behind_float line i run part.1 part.0
    ∙ ap (λ xs. slice_get xs 0) (one_more line (run.start + length_at line run.start) at (start_behind line run.start (omega arith) part.1.starts))))
    (run_at line i run is)

-- past a float's own cells
pub later : (line : List Bool) (i : ℕ) (run : Run) → run.start + run.length < length line → slice_get (runs_of line) i ≡ Some run → run.start < run.start + run.length
later line i run before is = let on = on_line line i run (omega arith) is in omega (arith, on.some)

-- the first place has the first float
pub first_mixed : (line : List Bool) (x : ℕ) (run : Run) → IsFirstStart line x → run ≡ float_at line x → slice_get (runs_of line) 0 ≡ Some run
first_mixed line x run first is =
    ap (λ xs. slice_get xs 0) (sym (all_from_first line x first) ∙ one_more line x first.within first.starts) ∙ ap Some (sym is)

pub first_uniform : (line : List Bool) (run : Run) → is_uniform line ≡ true → run ≡ endless_float line → slice_get (runs_of line) 0 ≡ Some run
first_uniform line run uniform is = ap (λ xs. slice_get xs 0) (runs_uniform line uniform) ∙ ap Some (sym is)

-- a list from a place on
pub drop_at : {A : Type 0} (xs : List A) (i : ℕ) (x : A) → slice_get xs i ≡ Some x → drop i xs ≡ x ∷ drop (i + 1) xs
drop_at [] i x is = absurd (cc)
drop_at (y ∷ ys) zero x is = let e : y ≡ x = cc in ap (λ z. z ∷ ys) e
drop_at (y ∷ ys) (suc i) x is = drop_at ys i x is ∙ ap (λ k. x ∷ drop k (y ∷ ys)) (let e : suc (i + 1) ≡ suc i + 1 = omega arith in e)

pub drop_past : {A : Type 0} (xs : List A) (i : ℕ) → slice_get xs i ≡ None → drop i xs ≡ []
drop_past [] zero is = refl
drop_past [] (suc i) is = refl
drop_past (y ∷ ys) zero is = absurd (cc)
drop_past (y ∷ ys) (suc i) is = drop_past ys i is

-- how many positions are left from a float's start on
abbrev pub positions_left : List Bool → Option Run → ℕ
positions_left line None = 0
positions_left line (Some run) = length line - run.start

-- what holds at each place of a list holds of each of its items, and of the one that a search finds
each_at : {A : Type 0} (P : A → Type 0) (xs : List A) → ((i : ℕ) (x : A) → slice_get xs i ≡ Some x → P x) → All P xs
each_at P xs at k d h = at k (get_or xs k d) (slice_get-get_or xs k d h)

found_one : {A : Type 0} (P : A → Type 0) (p : A → Bool) (xs : List A) → All P xs → IfSome (find p xs) P
found_one P p [] all = tt
found_one {A} P p (x ∷ xs) all = ⊎_elim
    (λ (e : p x ≡ true). subst (λ (o : Option A). IfSome o P) (sym (cond-true (p x) (Some x) (find p xs) e)) (all 0 x (omega arith)))
    (λ (e : p x ≡ false). subst (λ (o : Option A). IfSome o P) (sym (cond-false (p x) (Some x) (find p xs) e)) (found_one P p xs (λ k d h. all (suc k) d (omega arith))))
    (cases_Bool (p x))

pub all_on_line : (line : List Bool) → 0 < length line → All (IsOnLine line) (runs_of line)
all_on_line line some = each_at (IsOnLine line) (runs_of line) (λ i run is. on_line line i run some is)

pub first_on_line : (line : List Bool) (lifted unlifted : ℕ) → 0 < length line → IfSome (first_long_of line lifted unlifted) (IsOnLine line)
unfolding first_long_of
first_on_line line lifted unlifted some = found_one (IsOnLine line) (is_over lifted unlifted) (runs_of line) (all_on_line line some)
