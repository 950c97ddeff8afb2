-- Lists and texts.
use Rattle.std.proofs.Common.{◌≡◌, ◌≢◌, ◌⊎◌, inl, inr, ◌+◌, ◌<◌, ◌≤◌, ◌==◌, ℕ, zero, suc, true, false, List, [], ◌∷◌, ◌++◌, length, get_or, map, refl, sym, ap, subst, ◌∙◌, append_assoc, append-nil, arith}
use Rattle.std.proofs.lemmas.Bool.{cases_lt}
use Rattle.std.proofs.lemmas.Bool.Decides.{nat_tests}
use Rattle.std.specs.Prelude.{All, replicate}
use Rattle.std.specs.List.{range_with_len}
use Rattle.std.proofs.lemmas.List.FromFn.{get_or-map-range_with_len}
use Rattle.shift_model.proofs.lemmas.Lists.{All_tail}
use Rattle.report_text.specs.Reports.{lines_from}
use Rattle.audit_model.specs.Lines.{texts_below}

pub lines_from-append : {X : Type 0} (n m : ℕ) (text : ℕ → X → List ℕ) (xs ys : List X) → m ≡ n + length xs → lines_from n text (xs ++ ys) ≡ lines_from n text xs ++ lines_from m text ys
lines_from-append n m text [] ys e = ap (λ k. lines_from k text ys) (let h : n ≡ m = omega (arith, e) in h)
lines_from-append n m text (x ∷ xs) ys e = ap (λ l. text n x ++ l) (lines_from-append (n + 1) m text xs ys (omega (arith, e))) ∙ sym (append_assoc (text n x) (lines_from (n + 1) text xs) (lines_from m text ys))

pub lines_from-one : {X : Type 0} (text : ℕ → X → List ℕ) (xs : List X) (x : X) → lines_from 0 text (xs ++ x ∷ []) ≡ lines_from 0 text xs ++ text (length xs) x
lines_from-one text xs x = lines_from-append 0 (length xs) text xs (x ∷ []) (omega arith) ∙ ap (λ l. lines_from 0 text xs ++ l) (append-nil (text (length xs) x))

pub lines_from-none : {X : Type 0} (n : ℕ) (text : ℕ → X → List ℕ) (P : X → Type 0) (xs : List X) → ((k : ℕ) (x : X) → P x → text k x ≡ []) → All P xs → lines_from n text xs ≡ []
lines_from-none n text P [] none all = refl
lines_from-none n text P (x ∷ xs) none all = ap (λ l. l ++ lines_from (n + 1) text xs) (none n x (all 0 x (omega arith))) ∙ lines_from-none (n + 1) text P xs none (All_tail P x xs all)

pub texts_below-alike : (n : ℕ) (f g : ℕ → List ℕ) → ((j : ℕ) → j < n → f j ≡ g j) → texts_below n f ≡ texts_below n g
texts_below-alike zero f g h = refl
texts_below-alike (suc n) f g h = ap (λ l. l ++ f n) (texts_below-alike n f g (λ j l. h j (omega arith))) ∙ ap (λ l. texts_below n g ++ l) (h n (omega arith))

pub texts_below-none : (n : ℕ) (f : ℕ → List ℕ) → ((j : ℕ) → j < n → f j ≡ []) → texts_below n f ≡ []
texts_below-none zero f h = refl
texts_below-none (suc n) f h = ap (λ l. l ++ f n) (texts_below-none n f (λ j l. h j (omega arith))) ∙ h n (omega arith)

-- one of the texts grows, and those behind it are empty
pub texts_below-grows : (n k : ℕ) (f g : ℕ → List ℕ) (more : List ℕ) → k < n → ((j : ℕ) → j < k → g j ≡ f j) → g k ≡ f k ++ more → ((j : ℕ) → k < j → j < n → (f j ≡ []) × (g j ≡ []))
    → texts_below n g ≡ texts_below n f ++ more
texts_below-grows zero k f g more h low here high = absurd (omega arith)
texts_below-grows (suc n) k f g more h low here high = by (cases_lt k n) (λ l. texts_below-grows n k f g more l low here (λ j a b. high j a (omega arith))) where
  by : (k < n) ⊎ (n ≤ k) → (k < n → texts_below n g ≡ texts_below n f ++ more) → texts_below (suc n) g ≡ texts_below (suc n) f ++ more
  by (inl l) again =
      ap (λ x. x ++ g n) (again l)
      ∙ ap (λ x. (texts_below n f ++ more) ++ x) ((high n l (omega arith)).1) ∙ append-nil (texts_below n f ++ more)
      ∙ sym (ap (λ x. (texts_below n f ++ x) ++ more) ((high n l (omega arith)).0) ∙ ap (λ x. x ++ more) (append-nil (texts_below n f)))
  by (inr r) again =
      let e : k ≡ n = omega arith in
      let is : g n ≡ f n ++ more = subst (λ m. g m ≡ f m ++ more) e here in
      ap (λ x. x ++ g n) (texts_below-alike n g f (λ j l. low j (omega arith))) ∙ ap (λ x. texts_below n f ++ x) is ∙ sym (append_assoc (texts_below n f) (f n) more)

pub at_range : {X : Type 0} (f : ℕ → X) (n k : ℕ) (d : X) → k < n → get_or (map f (range_with_len 0 n)) k d ≡ f k
at_range f n k d h = get_or-map-range_with_len f 0 n k k d h (omega arith)

pub is_same : (s k : ℕ) → s ≡ k → (s == k) ≡ true
is_same s k h = grind (arith, nat_tests)

pub is_other : (s k : ℕ) → s ≢ k → (s == k) ≡ false
is_other s k h = grind (arith, nat_tests)

pub shift_of : {X : Type 0} (f : X → ℕ) (xs : List X) (P : ℕ → Type 0) → All P (map f xs) → All (λ x. P (f x)) xs
shift_of f [] P all k d h = absurd (omega arith)
shift_of f (x ∷ xs) P all zero d h = all 0 (f x) (omega arith)
shift_of f (x ∷ xs) P all (suc k) d h = shift_of f xs P (All_tail P (f x) (map f xs) all) k d (omega arith)

pub nothing_in : {X : Type 0} (xs : List X) → length xs ≡ 0 → xs ≡ []
nothing_in [] h = refl
nothing_in (x ∷ xs) h = absurd (omega (arith, h))

pub at_replicate : {X : Type 0} (n k : ℕ) (x d : X) → k < n → get_or (replicate n x) k d ≡ x
at_replicate zero k x d h = absurd (omega arith)
at_replicate (suc n) zero x d h = refl
at_replicate (suc n) (suc k) x d h = at_replicate n k x d (omega arith)

pub length_replicate : {X : Type 0} (n : ℕ) (x : X) → length (replicate n x) ≡ n
length_replicate zero x = refl
length_replicate (suc n) x = ap suc (length_replicate n x)

-- the lines of a list are the texts of its places
texts_front : (n : ℕ) (f : ℕ → List ℕ) → texts_below (suc n) f ≡ f 0 ++ texts_below n (λ i. f (suc i))
texts_front zero f = sym (append-nil (f 0))
texts_front (suc n) f = ap (λ l. l ++ f (suc n)) (texts_front n f) ∙ append_assoc (f 0) (texts_below n (λ i. f (suc i))) (f (suc n))

lines_are : {X : Type 0} (n : ℕ) (lines : ℕ → X → List ℕ) (xs : List X) (d : X) → lines_from n lines xs ≡ texts_below (length xs) (λ i. lines (n + i) (get_or xs i d))
lines_are n lines [] d = refl
lines_are n lines (x ∷ xs) d =
    ap (λ l. lines n x ++ l) (lines_are (n + 1) lines xs d
    ∙ texts_below-alike (length xs) (λ i. lines (n + 1 + i) (get_or xs i d)) (λ i. lines (n + suc i) (get_or xs i d)) (λ i h. ap (λ m. lines m (get_or xs i d)) (let e : n + 1 + i ≡ n + suc i = omega arith in e)))
    ∙ ap (λ m. lines m x ++ texts_below (length xs) (λ i. lines (n + suc i) (get_or xs i d))) (let e : n ≡ n + 0 = omega arith in e)
    ∙ sym (texts_front (length xs) (λ i. lines (n + i) (get_or (x ∷ xs) i d)))

pub lines_below : {X : Type 0} (lines : ℕ → X → List ℕ) (xs : List X) (d : X) → lines_from 0 lines xs ≡ texts_below (length xs) (λ i. lines i (get_or xs i d))
lines_below lines xs d =
    lines_are 0 lines xs d
    ∙ texts_below-alike (length xs) (λ i. lines (0 + i) (get_or xs i d)) (λ i. lines i (get_or xs i d)) (λ i h. ap (λ m. lines m (get_or xs i d)) (let e : 0 + i ≡ i = omega arith in e))
