-- No state has more entries than the session has acts.
use Rattle.std.proofs.Common.{◌≡◌, ◌+◌, ◌<◌, ◌≤◌, ◌==◌, ℕ, zero, suc, Bool, true, false, cond, List, [], ◌∷◌, length, length-append, get_or, refl, sym, ap, ◌∙◌, arith}
use Rattle.std.proofs.lemmas.List.{length-map}
use Rattle.std.proofs.lemmas.List.FromFn.{length-range_with_len}
use Rattle.std.proofs.lemmas.List.Sums.{sum_by-cons}
use Rattle.std.specs.Prelude.{All, filter, sum_by}
use Rattle.version_journal.specs.declared.entry.Entry.{Entry}
use Rattle.session_file.specs.Plans.{acts_in}
use Rattle.session_file.specs.declared.session.Session.{Session}
use Rattle.session_file.specs.declared.session.ShiftPlan.{ShiftPlan}
use Rattle.shift_model.specs.Logs.{entries_of_shift, numbers_of_painter}
use Rattle.shift_model.specs.Plans.{acts_of_painter, plan_of}
use Rattle.audit_model.specs.States.{Part, State, done_of, entries_of}
use Rattle.audit_model.proofs.Basics.{is_same, shift_of}

-- the sum of f(0) to f(n - 1)
abbrev sum_of : ℕ → (ℕ → ℕ) → ℕ
sum_of zero f = 0
sum_of (suc n) f = f 0 + sum_of n (λ i. f (suc i))

sum_mono : (n : ℕ) (f g : ℕ → ℕ) → ((i : ℕ) → i < n → f i ≤ g i) → sum_of n f ≤ sum_of n g
sum_mono zero f g h = omega arith
sum_mono (suc n) f g h = omega (arith, h 0 (omega arith), sum_mono n (λ i. f (suc i)) (λ i. g (suc i)) (λ i l. h (suc i) (omega arith)))

sum_step : (n k : ℕ) (f g : ℕ → ℕ) → k < n → ((i : ℕ) → i < n → f i ≤ g i) → f k + 1 ≤ g k → sum_of n f + 1 ≤ sum_of n g
sum_step zero k f g l h more = absurd (omega (arith, l))
sum_step (suc n) zero f g l h more = omega (arith, more, sum_mono n (λ i. f (suc i)) (λ i. g (suc i)) (λ i b. h (suc i) (omega arith)))
sum_step (suc n) (suc k) f g l h more = omega (arith, h 0 (omega arith), sum_step n k (λ i. f (suc i)) (λ i. g (suc i)) (omega (arith, l)) (λ i b. h (suc i) (omega arith)) more)

sum_more : (n k : ℕ) (f : ℕ → ℕ) → k < n → sum_of k f + f k ≤ sum_of n f
sum_more zero k f l = absurd (omega (arith, l))
sum_more (suc n) zero f l = omega arith
sum_more (suc n) (suc k) f l = omega (arith, sum_more n k (λ i. f (suc i)) (omega (arith, l)))

sum_list : {X : Type 0} (f : X → ℕ) (xs : List X) (d : X) → sum_of (length xs) (λ i. f (get_or xs i d)) ≡ sum_by f xs
sum_list f [] d = refl
sum_list f (x ∷ xs) d = ap (λ n. f x + n) (sum_list f xs d) ∙ sym (sum_by-cons f x xs)

filter_grows : {X : Type 0} (p : X → Bool) (x : X) (xs : List X) (b : Bool) → p x ≡ b → length (filter p (x ∷ xs)) ≡ cond b 1 0 + length (filter p xs)
filter_grows p x xs true h = ap (λ c. length (cond c (x ∷ filter p xs) (filter p xs))) h ∙ (let e : suc (length (filter p xs)) ≡ 1 + length (filter p xs) = omega arith in e)
filter_grows p x xs false h = ap (λ c. length (cond c (x ∷ filter p xs) (filter p xs))) h ∙ (let e : length (filter p xs) ≡ 0 + length (filter p xs) = omega arith in e)

filter_more : {X : Type 0} (p : X → Bool) (x : X) (xs : List X) → length (filter p xs) ≤ length (filter p (x ∷ xs))
filter_more p x xs = omega (arith, filter_grows p x xs (p x) refl)

-- items by keys below n are counted by their keys
keyed : {X : Type 0} (key : X → ℕ) (n : ℕ) (xs : List X) → All (λ x. key x < n) xs → length xs ≤ sum_of n (λ i. length (filter (λ x. key x == i) xs))
keyed key n [] all = omega arith
keyed key n (x ∷ xs) all =
    let here = filter_grows (λ y. key y == key x) x xs true (is_same (key x) (key x) refl) in
    omega (
      arith,
      keyed key n xs (λ i d l. all (suc i) d (omega (arith, l))),
      sum_step n (key x) (λ i. length (filter (λ y. key y == i) xs)) (λ i. length (filter (λ y. key y == i) (x ∷ xs))) (all 0 x (omega arith)) (λ i l. filter_more (λ y. key y == i) x xs) (omega (arith, here)),
    )

abbrev acts_at : Session → ℕ → ℕ
acts_at session shift = sum_by length (plan_of session shift).painters

-- entries of painters, each of which did no more than its acts
in_shift : (plan : ShiftPlan) (es : List Entry) → All (λ e. e.painter < length plan.painters) es
    → ((p : ℕ) → p < length plan.painters → length (numbers_of_painter p es) ≤ length (acts_of_painter plan p)) → length es ≤ sum_by length plan.painters
in_shift plan es all few =
    let n = length plan.painters in
    omega (
      arith,
      keyed (λ (e : Entry). e.painter) n es all,
      sum_mono n (λ p. length (filter (λ (e : Entry). e.painter == p) es)) (λ p. length (get_or plan.painters p [])) (λ p l. omega (arith, few p l, length-map (filter (λ (e : Entry). e.painter == p) es) (λ (e : Entry). e.number))),
      sum_list length plan.painters [],
    )

-- there are no more entries than acts
pub few_entries : (session : Session) (s : State) → Part session s → length (entries_of s) ≤ acts_in session.shifts
few_entries session s p =
    let j = p.legal.journal in
    let es = s.before.entries in
    let old : length es ≤ sum_of s.shift (acts_at session) = omega (
      arith,
      keyed (λ (e : Entry). e.shift) s.shift es (shift_of (λ (e : Entry). e.shift) es (λ n. n < s.shift) j.shifts.before),
      sum_mono s.shift (λ k. length (entries_of_shift k es)) (acts_at session) (λ k l. in_shift (plan_of session k) (entries_of_shift k es) (j.merges k l).painters
          (λ q h. omega (arith, ap length ((j.merges k l).numbers q h), length-range_with_len 1 (length (acts_of_painter (plan_of session k) q))))),
    ) in
    omega (
      arith,
      old,
      in_shift (plan_of session s.shift) s.new p.merges.painters p.merges.few,
      sum_more (length session.shifts) s.shift (acts_at session) p.within,
      sum_list (λ (plan : ShiftPlan). sum_by length plan.painters) session.shifts (record { repeats = []; painters = [] }),
      length-append es s.new,
    )

-- nor has a painter done more
pub few_done : (s : State) (painter : ℕ) → done_of s painter ≤ length s.new
few_done s painter = omega (arith, length-map (filter (λ (e : Entry). e.painter == painter) s.new) (λ (e : Entry). e.number), filter_less (λ (e : Entry). e.painter == painter) s.new) where
  filter_less : {X : Type 0} (p : X → Bool) (xs : List X) → length (filter p xs) ≤ length xs
  filter_less p [] = omega arith
  filter_less p (x ∷ xs) = omega (arith, filter_grows p x xs (p x) refl, filter_less p xs, one (p x)) where
    one : (b : Bool) → cond b 1 0 ≤ 1
    one true = omega arith
    one false = omega arith
