-- The numbers below n that pass a test, each with what it gives, and a list that is compared with them.
use Rattle.std.proofs.Common.{◌≡◌, ◌≢◌, ◌+◌, ◌-◌, ◌<◌, ◌≤◌, ℕ, zero, suc, Bool, true, false, cond, List, [], ◌∷◌, ◌++◌, Option, Some, None, length, map, refl, sym, ap, subst, ◌∙◌, append-nil, append_assoc, length-append, arith, ⊎_elim}
use Rattle.std.specs.Prelude.{slice_get, filter}
use Rattle.std.specs.List.{range_with_len}
use Rattle.std.proofs.lemmas.Bool.{cases_lt}
use Rattle.std.proofs.lemmas.List.{map-append}
use Rattle.std.proofs.lemmas.List.Elements.{filter-append}
use Rattle.std.proofs.lemmas.Option.{slice_get_past}
use Rattle.open_desk.specs.Differences.{AgreeBelow, DifferFirst}
use Rattle.open_desk.specs.declared.receipt.Receipt.{Receipt}

abbrev pub picked : {A : Type 0} → (ℕ → Bool) → (ℕ → A) → ℕ → List A
picked p f n = map f (filter p (range_with_len 0 n))

range_more : (a n : ℕ) → range_with_len a (suc n) ≡ range_with_len a n ++ (a + n) ∷ []
range_more a zero = ap (λ k. k ∷ []) (let e : a ≡ a + 0 = omega arith in e)
range_more a (suc n) = ap (λ r. a ∷ r) (range_more (a + 1) n ∙ ap (λ k. range_with_len (a + 1) n ++ k ∷ []) (let e : a + 1 + n ≡ a + suc n = omega arith in e))

picked_more : {A : Type 0} (p : ℕ → Bool) (f : ℕ → A) (n : ℕ) → picked p f (suc n) ≡ picked p f n ++ map f (filter p (n ∷ []))
picked_more p f n =
    ap (λ r. map f (filter p r)) (range_more 0 n ∙ ap (λ k. range_with_len 0 n ++ k ∷ []) (let e : 0 + n ≡ n = omega arith in e)) ∙ ap (map f) (filter-append p (range_with_len 0 n) (n ∷ [])) ∙ map-append f (filter p (range_with_len 0 n)) (filter p (n ∷ []))

pub picked_yes : {A : Type 0} (p : ℕ → Bool) (f : ℕ → A) (n : ℕ) → p n ≡ true → picked p f (suc n) ≡ picked p f n ++ f n ∷ []
picked_yes {A} p f n here_yes = picked_more p f n ∙ ap (λ (b : Bool). picked p f n ++ map f (cond {A = List ℕ} b (n ∷ []) [])) here_yes

pub picked_no : {A : Type 0} (p : ℕ → Bool) (f : ℕ → A) (n : ℕ) → p n ≡ false → picked p f (suc n) ≡ picked p f n
picked_no {A} p f n here_no = picked_more p f n ∙ ap (λ (b : Bool). picked p f n ++ map f (cond {A = List ℕ} b (n ∷ []) [])) here_no ∙ append-nil (picked p f n)

pub get_front : {A : Type 0} (xs ys : List A) (j : ℕ) → j < length xs → slice_get (xs ++ ys) j ≡ slice_get xs j
get_front [] ys j h = absurd (omega (arith, h))
get_front (x ∷ xs) ys zero h = refl
get_front (x ∷ xs) ys (suc j) h = get_front xs ys j (omega (arith, h))

pub get_seam : {A : Type 0} (xs : List A) (y : A) (ys : List A) → slice_get (xs ++ y ∷ ys) (length xs) ≡ Some y
get_seam [] y ys = refl
get_seam (x ∷ xs) y ys = get_seam xs y ys

abbrev unsome : {A : Type 0} → A → Option A → A
unsome d (Some x) = x
unsome d None = d

pub some_same : {A : Type 0} (a b : A) → Some a ≡ Some b → a ≡ b
some_same a b same = ap (unsome a) same

-- what was picked stays in front of what is picked later
front_step : {A : Type 0} (p : ℕ → Bool) (f : ℕ → A) (m k : ℕ) (b : Bool) → p (k + m) ≡ b → (rest : List A) × (picked p f (k + m) ≡ picked p f m ++ rest)
    → (rest : List A) × (picked p f (suc (k + m)) ≡ picked p f m ++ rest)
front_step p f m k true is before = (
  before.0 ++ f (k + m) ∷ [],
  picked_yes p f (k + m) is ∙ ap (λ l. l ++ f (k + m) ∷ []) before.1 ∙ append_assoc (picked p f m) before.0 (f (k + m) ∷ []),
)
front_step p f m k false is before = (before.0, picked_no p f (k + m) is ∙ before.1)

front : {A : Type 0} (p : ℕ → Bool) (f : ℕ → A) (m k : ℕ) → (rest : List A) × (picked p f (k + m) ≡ picked p f m ++ rest)
front p f m zero = ([], ap (picked p f) (let e : 0 + m ≡ m = omega arith in e) ∙ sym (append-nil (picked p f m)))
front {A} p f m (suc k) =
    subst (λ n. (rest : List A) × (picked p f n ≡ picked p f m ++ rest)) (let e : suc (k + m) ≡ suc k + m = omega arith in e) (front_step p f m k (p (k + m)) refl (front p f m k))

pub picked_stays : {A : Type 0} (p : ℕ → Bool) (f : ℕ → A) (m n j : ℕ) → m ≤ n → j < length (picked p f m) → slice_get (picked p f n) j ≡ slice_get (picked p f m) j
picked_stays p f m n j h within =
    let more = front p f m (n - m) in
    let sum : n ≡ (n - m) + m = omega (arith, h) in
    ap (λ k. slice_get (picked p f k) j) sum ∙ ap (λ l. slice_get l j) more.1 ∙ get_front (picked p f m) more.0 j within

-- k receipts agree with the k that are picked below `place`
pub record Compared (p : ℕ → Bool) (f : ℕ → Receipt) (receipts : List Receipt) (place k : ℕ) : Type 0 where
  pub count : length (picked p f place) ≡ k
  pub within : k ≤ length receipts
  pub agree : AgreeBelow k receipts (picked p f place)

pub compared_none : (p : ℕ → Bool) (f : ℕ → Receipt) (receipts : List Receipt) → Compared p f receipts 0 0
compared_none p f receipts = record { count = refl; within = omega arith; agree = λ j h. absurd (omega (arith, h)) }

pub agree_on : (p : ℕ → Bool) (f : ℕ → Receipt) (receipts : List Receipt) (m n k : ℕ) → m ≤ n → Compared p f receipts m k → AgreeBelow k receipts (picked p f n)
agree_on p f receipts m n k h is j below = is.agree j below ∙ sym (picked_stays p f m n j h (omega (arith, below, is.count)))

pub compared_no : (p : ℕ → Bool) (f : ℕ → Receipt) (receipts : List Receipt) (place k : ℕ) → p place ≡ false → Compared p f receipts place k → Compared p f receipts (place + 1) k
compared_no p f receipts place k here_no is =
    let same = picked_no p f place here_no in
    subst (λ n. Compared p f receipts n k) (let e : suc place ≡ place + 1 = omega arith in e) (record {
      count = ap length same ∙ is.count;
      within = is.within;
      agree = λ j below. is.agree j below ∙ ap (λ l. slice_get l j) (sym same);
    })

-- the receipt that is picked at a place is the k-th
pub picked_here : (p : ℕ → Bool) (f : ℕ → Receipt) (receipts : List Receipt) (place k n : ℕ) → p place ≡ true → place < n → Compared p f receipts place k
    → slice_get (picked p f n) k ≡ Some (f place)
picked_here p f receipts place k n here_yes low is =
    let one = picked_yes p f place here_yes in
    let there : slice_get (picked p f (suc place)) k ≡ Some (f place) =
    ap (λ l. slice_get l k) one ∙ ap (slice_get (picked p f place ++ f place ∷ [])) (sym is.count) ∙ get_seam (picked p f place) (f place) [] in
    let long : length (picked p f (suc place)) ≡ k + 1 = ap length one ∙ length-append (picked p f place) (f place ∷ []) ∙ ap (λ m. m + 1) is.count in
    picked_stays p f (suc place) n k (omega (arith, low)) (omega (arith, long)) ∙ there

pub compared_yes : (p : ℕ → Bool) (f : ℕ → Receipt) (receipts : List Receipt) (place k : ℕ) → p place ≡ true → k < length receipts → slice_get receipts k ≡ Some (f place)
    → Compared p f receipts place k → Compared p f receipts (place + 1) (k + 1)
compared_yes p f receipts place k here_yes low same is =
    let one = picked_yes p f place here_yes in
    subst (λ n. Compared p f receipts n (k + 1)) (let e : suc place ≡ place + 1 = omega arith in e) (record {
      count = ap length one ∙ length-append (picked p f place) (f place ∷ []) ∙ ap (λ m. m + 1) is.count;
      within = omega (arith, low);
      agree = λ j below. ⊎_elim
          (λ (h : j < k). agree_on p f receipts place (suc place) k (omega arith) is j h)
          (λ (h : k ≤ j).
          let at : j ≡ k = omega (arith, h, below) in
          subst (λ n. slice_get receipts n ≡ slice_get (picked p f (suc place)) n) (sym at) (same ∙ sym (picked_here p f receipts place k (suc place) here_yes (omega arith) is)))
          (cases_lt j k);
    })

pub differ_here : (p : ℕ → Bool) (f : ℕ → Receipt) (receipts : List Receipt) (place k n : ℕ) (told : Receipt) → p place ≡ true → place < n → slice_get receipts k ≡ Some told
    → (f place ≢ told) → Compared p f receipts place k → DifferFirst receipts (picked p f n) told (Some (f place))
differ_here p f receipts place k n told here_yes low here apart is = record {
  k = k;
  here = here;
  there = picked_here p f receipts place k n here_yes low is;
  apart = λ same. apart (some_same (f place) told same);
  before = agree_on p f receipts place n k (omega (arith, low)) is;
}

pub differ_past : (p : ℕ → Bool) (f : ℕ → Receipt) (receipts : List Receipt) (k n : ℕ) (told : Receipt) → slice_get receipts k ≡ Some told
    → Compared p f receipts n k → DifferFirst receipts (picked p f n) told None
differ_past p f receipts k n told here is = record {
  k = k;
  here = here;
  there = slice_get_past (picked p f n) k (omega (arith, is.count));
  apart = λ same. cc;
  before = is.agree;
}
