-- How many acts of each painter were done.
use Rattle.std.proofs.Common.{◌≡◌, ◌≢◌, ◌+◌, ◌<◌, ◌≤◌, ◌==◌, ◌⊎◌, inl, inr, ℕ, zero, suc, Bool, true, false, cond, List, [], ◌∷◌, ◌++◌, length, get_or, map, set, replicate, refl, sym, ap, ◌∙◌, arith, append-nil, sum, sum_by}
use Rattle.std.specs.Prelude.{filter, slice_index}
use Rattle.std.specs.List.{range_with_len}
use Rattle.std.proofs.lemmas.Bool.{cases_eq, cases_lt}
use Rattle.std.proofs.lemmas.Bool.Decides.{nat_tests}
use Rattle.std.proofs.lemmas.Grind.{get_or_default_zero}
use Rattle.std.proofs.lemmas.List.{map-append, get_or-set_same, get_or-set_other, get_or-replicate, get_or_past, length-replicate}
use Rattle.std.proofs.lemmas.List.Elements.{All-push, filter-append}
use Rattle.std.proofs.lemmas.List.Sums.{sum_by-cons, sum_by-set}
use Rattle.strokes.specs.declared.act.Act.{Act}
use Rattle.version_journal.specs.declared.entry.Entry.{Entry}
use Rattle.version_journal.specs.declared.entry.Reply.{Reply}
use Rattle.session_file.specs.declared.session.ShiftPlan.{ShiftPlan}
use Rattle.studio_core.specs.Cores.{entry_by}
use Rattle.shift_model.specs.Logs.{numbers_of_painter}
use Rattle.shift_run.specs.Desks.{IsUnder}

range_suc : (a n : ℕ) → range_with_len a (suc n) ≡ range_with_len a n ++ (a + n) ∷ []
range_suc a zero = ap (λ m. m ∷ []) (let e : a ≡ a + 0 = omega arith in e)
range_suc a (suc n) =
    ap (λ l. a ∷ l) (range_suc (a + 1) n ∙ ap (λ m. range_with_len (a + 1) n ++ m ∷ []) (let e : a + 1 + n ≡ a + suc n = omega arith in e))

range_more : (a n : ℕ) → range_with_len a (n + 1) ≡ range_with_len a n ++ (a + n) ∷ []
range_more a n = ap (range_with_len a) (let e : n + 1 ≡ suc n = omega arith in e) ∙ range_suc a n

-- one number more of a painter
numbers_more : (q : ℕ) (new : List Entry) (e : Entry) (b : Bool) → (e.painter == q) ≡ b → numbers_of_painter q (new ++ e ∷ []) ≡ numbers_of_painter q new ++ cond b (e.number ∷ []) []
numbers_more q new e b is =
    ap (map (λ (x : Entry). x.number)) (filter-append (λ (x : Entry). x.painter == q) new (e ∷ []))
    ∙ map-append (λ (x : Entry). x.number) (filter (λ (x : Entry). x.painter == q) new) (filter (λ (x : Entry). x.painter == q) (e ∷ []))
    ∙ ap (λ l. numbers_of_painter q new ++ l) (last b is) where
      last : (b : Bool) → (e.painter == q) ≡ b → map (λ (x : Entry). x.number) (cond (e.painter == q) (e ∷ []) []) ≡ cond b (e.number ∷ []) []
      last b is = ap (λ t. map (λ (x : Entry). x.number) (cond t (e ∷ []) [])) is ∙ both b where
        both : (b : Bool) → map (λ (x : Entry). x.number) (cond b (e ∷ []) []) ≡ cond b (e.number ∷ []) []
        both true = refl
        both false = refl

pub under_more : (plan : ShiftPlan) (k p n : ℕ) (reply : Reply) (new : List Entry) (done : List ℕ) → length done ≡ length plan.painters → p < length plan.painters → n ≡ slice_index done p
    → IsUnder plan done new → IsUnder plan (set done p (n + 1)) (new ++ entry_by k p (n + 1) reply ∷ [])
under_more plan k p n reply new done long there is under = record {
  painters = All-push (λ (e : Entry). e.painter < length plan.painters) new (entry_by k p (n + 1) reply) under.painters there;
  numbers = λ q below. by q below (cases_eq p q);
} where
  by : (q : ℕ) → q < length plan.painters → (p ≡ q) ⊎ (p ≢ q) → numbers_of_painter q (new ++ entry_by k p (n + 1) reply ∷ []) ≡ range_with_len 1 (slice_index (set done p (n + 1)) q)
  by q below (inl same) =
      numbers_more q new (entry_by k p (n + 1) reply) true (let e : (p == q) ≡ true = grind (arith, nat_tests) in e)
      ∙ ap (λ l. l ++ (n + 1) ∷ []) (under.numbers q below ∙ ap (range_with_len 1) (let e : slice_index done q ≡ n = ap (slice_index done) (sym same) ∙ sym is in e))
      ∙ ap (λ m. range_with_len 1 n ++ m ∷ []) (let e : n + 1 ≡ 1 + n = omega arith in e) ∙ sym (range_more 1 n)
      ∙ ap (range_with_len 1) (sym (ap (slice_index (set done p (n + 1))) (sym same) ∙ get_or-set_same done p (n + 1) 0 (omega (arith, long))))
  by q below (inr other) =
      numbers_more q new (entry_by k p (n + 1) reply) false (let e : (p == q) ≡ false = grind (arith, nat_tests) in e)
      ∙ append-nil (numbers_of_painter q new) ∙ under.numbers q below
      ∙ ap (range_with_len 1) (sym (get_or-set_other done p q (n + 1) 0 (λ e. other (sym e))))

-- so many acts of each painter, with one more of a painter
pub count_more : (done : List ℕ) (p n : ℕ) → p < length done → n ≡ slice_index done p → (q : ℕ)
    → (slice_index (set done p (n + 1)) q ≡ n + 1) × (p ≡ q) ⊎ (slice_index (set done p (n + 1)) q ≡ slice_index done q) × (p ≢ q)
count_more done p n there is q = by (cases_eq p q) where
  by : (p ≡ q) ⊎ (p ≢ q) → (slice_index (set done p (n + 1)) q ≡ n + 1) × (p ≡ q) ⊎ (slice_index (set done p (n + 1)) q ≡ slice_index done q) × (p ≢ q)
  by (inl same) = inl (sym (ap (slice_index (set done p (n + 1))) same) ∙ get_or-set_same done p (n + 1) 0 there, same)
  by (inr other) = inr (get_or-set_other done p q (n + 1) 0 (λ e. other (sym e)), other)

-- what is read of a painter's count
pub count_at : (done : List ℕ) (p n : ℕ) → p < length done → n ≡ get_or done p n → n ≡ slice_index done p
count_at done p n there is = is ∙ get_or_default_zero done p n there

pub sum_more : (done : List ℕ) (p n : ℕ) → p < length done → n ≡ slice_index done p → sum (set done p (n + 1)) ≡ sum done + 1
sum_more done p n there is = omega (arith, sum_by-set (λ (x : ℕ). x) done p (n + 1) 0 there, is)

-- sums of counts that are within others
sum_within : (xs : List ℕ) (ys : List (List Act)) → length xs ≡ length ys → ((p : ℕ) → slice_index xs p ≤ length (get_or ys p [])) → sum xs ≤ sum_by length ys
sum_within [] [] same within = omega arith
sum_within [] (y ∷ ys) same within = absurd (omega arith)
sum_within (x ∷ xs) [] same within = absurd (omega arith)
sum_within (x ∷ xs) (y ∷ ys) same within =
    omega (arith, sum_by-cons (λ (n : ℕ). n) x xs, sum_by-cons length y ys, within 0, sum_within xs ys (omega arith) (λ p. within (suc p)))

pub sum_below : (xs : List ℕ) (ys : List (List Act)) (p : ℕ) → length xs ≡ length ys → ((q : ℕ) → slice_index xs q ≤ length (get_or ys q []))
    → slice_index xs p < length (get_or ys p []) → sum xs < sum_by length ys
sum_below [] ys p same within below = absurd (omega (arith, none ys p (omega arith))) where
  none : (ys : List (List Act)) (p : ℕ) → length ys ≡ 0 → length (get_or ys p []) ≡ 0
  none [] p e = refl
  none (y ∷ ys) p e = absurd (omega arith)
sum_below (x ∷ xs) [] p same within below = absurd (omega arith)
sum_below (x ∷ xs) (y ∷ ys) zero same within below =
    omega (arith, sum_by-cons (λ (n : ℕ). n) x xs, sum_by-cons length y ys, below, sum_within xs ys (omega arith) (λ p. within (suc p)))
sum_below (x ∷ xs) (y ∷ ys) (suc p) same within below =
    omega (arith, sum_by-cons (λ (n : ℕ). n) x xs, sum_by-cons length y ys, within 0, sum_below xs ys p (omega arith) (λ q. within (suc q)) below)

pub sum_whole : (xs : List ℕ) (ys : List (List Act)) → length xs ≡ length ys → ((p : ℕ) → p < length ys → slice_index xs p ≡ length (get_or ys p [])) → sum xs ≡ sum_by length ys
sum_whole [] [] same whole = refl
sum_whole [] (y ∷ ys) same whole = absurd (omega arith)
sum_whole (x ∷ xs) [] same whole = absurd (omega arith)
sum_whole (x ∷ xs) (y ∷ ys) same whole =
    omega (arith, sum_by-cons (λ (n : ℕ). n) x xs, sum_by-cons length y ys, whole 0 (omega arith), sum_whole xs ys (omega arith) (λ p h. whole (suc p) (omega arith)))

pub nothing_at : (n p : ℕ) → slice_index (replicate n 0) p ≡ 0
nothing_at n p = by (cases_lt p n) where
  by : (p < n) ⊎ (n ≤ p) → slice_index (replicate n 0) p ≡ 0
  by (inl low) = get_or-replicate n p 0 0 low
  by (inr high) = get_or_past (replicate n 0) p 0 (omega (arith, length-replicate {A = ℕ} n 0))
